-- The part `agreement` of the mirror's law `histories`: the mirror is an image of the machine, and each call keeps it so.
use Rattle.wing_mirror.proofs.Records.Full.{full-laws}
use Rattle.wing_mirror.proofs.Histories.Demand.{histories}
use Rattle.promises.proofs.demand_3_histories.Goals as goal

pub returns : goal.returns
returns c = (histories full-laws).agreement
