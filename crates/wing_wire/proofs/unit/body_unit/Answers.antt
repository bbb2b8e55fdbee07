-- A body's unit is kept only where a body has room.
use mathlib.Core.Path.{sym, ◌∙◌}
use native.Mathlib.Omega.{arith}
use Rattle.wing_wire.proofs.Reading.Clears.{room}
use Rattle.wing_wire.proofs.unit.body_unit.Goals as goal

pub overflow_add-stored : goal.overflow_add-stored
overflow_add-stored c = omega (arith, room _ _ _ (sym c.is_kept.ensures ∙ c.if-is_kept.true))
