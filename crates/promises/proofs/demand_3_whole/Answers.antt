-- The mirror's law `histories`, which puts all parts of demand 3 together.
use Rattle.wing_mirror.proofs.Records.Full.{full-laws}
use Rattle.wing_mirror.proofs.Histories.Demand.{histories}
use Rattle.promises.proofs.demand_3_whole.Goals as goal

pub returns : goal.returns
returns c = histories full-laws
