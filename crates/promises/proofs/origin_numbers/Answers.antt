-- By the definition.
use mathlib.Core.Path.{refl}
use Rattle.wing_mirror.specs.Origin.{origin_number}
use Rattle.promises.proofs.origin_numbers.Goals as goal

pub returns : goal.returns
unfolding origin_number
returns c = (refl, refl)
