-- The contract of the mirror's set, with its answer by numbers (`set-as`).
use mir.Facts.{to_z-of_z}
use Rattle.wing_c.proofs.Effects.{set-as}
use Rattle.wing_c.proofs.mirror.wing_set_float.Goals as goal

pub returns : goal.returns
returns c =
    set-as c.set_float-r.result c.set.ensures (rw (to_z-of_z c.ranges.id) at c.set_float-r.ensures)
