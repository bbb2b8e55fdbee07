-- `details_at` opened is one 16-bit field, which the contract of `read_16` gives.
use mathlib.Core.Path.{◌∙◌}
use mathlib.Core.List.{[]}
use Rattle.wing_node.specs.Cursor.{number, reads, after}
use Rattle.wing_node.specs.Definition.{details_at, times}
use Rattle.wing_node.proofs.Refusals.{handed-on}
use Rattle.wing_node.proofs.Bodies.Fails.{refused-by, short-value, short-next, short-fault, stop}
use Rattle.wing_node.proofs.definition.longest.Goals as goal

pub returns-in_err-max : goal.returns-in_err-max
unfolding details_at reads after times
returns-in_err-max c = handed-on _ _ c.from_residual.ensures.1 ∙ refused-by _ _ _ (stop (number 2) [] _ _ _ (short-fault _ _ _ _ c.in_err-max.ensures))

pub returns : goal.returns
unfolding details_at reads after times
returns c = simp (short-value _ _ _ _ c.in_ok-max.ensures, short-next _ _ _ _ c.in_ok-max.ensures)
