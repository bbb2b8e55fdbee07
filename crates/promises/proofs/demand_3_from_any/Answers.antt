-- The mirror's law `agrees_from`: a usable table is the image of what its own records say.
use Rattle.wing_mirror.proofs.Records.Full.{full-laws}
use Rattle.wing_mirror.proofs.Histories.Starts.{agrees_from}
use Rattle.promises.proofs.demand_3_from_any.Goals as goal

pub returns : goal.returns
returns c = λ m calls r g b u t. agrees_from full-laws m (record { sound = g; inside = r }) b u calls t
