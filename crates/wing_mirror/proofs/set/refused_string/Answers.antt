-- Each return is the side of the `if` that `is_usable` tells.
use mathlib.Core.Path.{sym, ◌∙◌}
use Rattle.wing_mirror.proofs.set.refused_string.Goals as goal

pub returns-then-is_usable : goal.returns-then-is_usable
returns-then-is_usable c = rw (sym c.is_usable.ensures ∙ c.if-is_usable.true) c.refused.ensures

pub returns : goal.returns
returns c = rw (sym c.is_usable.ensures ∙ c.if-is_usable.false) c.refused-2.ensures
