-- The contract of `items_begin` says which line of `numbered_in` counts, and that of `numbered` gives the item.
use mathlib.Core.Path.{◌∙◌, ap}
use Rattle.wing_node.specs.Items.{numbered_in, item_numbered}
use Rattle.wing_node.proofs.Refusals.{handed-on}
use Rattle.wing_node.proofs.items.item_by_number.Goals as goal

pub returns-in_err-first : goal.returns-in_err-first
unfolding item_numbered
returns-in_err-first c = handed-on _ _ c.from_residual.ensures.1 ∙ ap (numbered_in c.args.body.now c.args.number) c.in_err-first.ensures

pub returns : goal.returns
unfolding item_numbered
returns c = simp (← c.in_ok-first.ensures, c.numbered.ensures)
