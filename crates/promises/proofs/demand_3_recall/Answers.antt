-- The part `rebuilding` of the mirror's law `histories`: the machine that is fed what recall writes has the entries of the records.
use Rattle.wing_mirror.proofs.Records.Full.{full-laws}
use Rattle.wing_mirror.proofs.Histories.Demand.{histories}
use Rattle.promises.proofs.demand_3_recall.Goals as goal

pub returns : goal.returns
returns c = (histories full-laws).rebuilding
