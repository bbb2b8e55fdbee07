-- What is underway has no more units left than it wants.
use mathlib.Core.Path.{sym, ◌∙◌}
use native.Mathlib.Omega.{arith}
use Rattle.wing_wire.proofs.Reading.Underway.{underway-le}
use Rattle.wing_wire.proofs.state.sound_number.Goals as goal

pub overflow_sub-width : goal.overflow_sub-width
overflow_sub-width c = omega (arith, underway-le _ _ (sym c.is_underway.ensures ∙ c.if-is_underway.true))
