-- The contract of `from_bytes` says which line of `begin_from` counts, and that of `first_of` gives the walk.
use mathlib.Core.Path.{◌∙◌, ap}
use Rattle.wing_node.specs.Items.{begin_from, begin_of}
use Rattle.wing_node.proofs.Refusals.{handed-on}
use Rattle.wing_node.proofs.items.items_begin.Goals as goal

pub returns-in_err-d : goal.returns-in_err-d
unfolding begin_of
returns-in_err-d c = handed-on _ _ c.from_residual.ensures.1 ∙ ap begin_from c.in_err-d.ensures

pub returns : goal.returns
unfolding begin_of
returns c = simp (← c.in_ok-d.ensures, c.first_of.ensures)
