-- The part `equality` of the mirror's law `histories`: the records are the map's entries in order.
use Rattle.wing_mirror.proofs.Records.Full.{full-laws}
use Rattle.wing_mirror.proofs.Histories.Demand.{histories}
use Rattle.promises.proofs.demand_3_equality.Goals as goal

pub returns : goal.returns
returns c = (histories full-laws).equality
