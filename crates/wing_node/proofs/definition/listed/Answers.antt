-- `listed_at` opened is the count and the items after it, which the contracts of `read_16` and `past_items` give.
use mathlib.Core.Path.{◌∙◌}
use Rattle.wing_node.specs.Cursor.{after}
use Rattle.wing_node.specs.Definition.{items_of, listed_at}
use Rattle.wing_node.proofs.Refusals.{handed-on}
use Rattle.wing_node.proofs.Bodies.Fails.{refused-by, short-value, short-next, short-fault, place-read, place-fault, stays-refused}
use Rattle.wing_node.proofs.definition.listed.Goals as goal

pub returns-in_err-count : goal.returns-in_err-count
unfolding listed_at
returns-in_err-count c = handed-on _ _ c.from_residual.ensures.1 ∙ refused-by _ _ _ (stays-refused _ _ _ _ (short-fault _ _ _ _ c.in_err-count.ensures))

pub returns-in_err-next : goal.returns-in_err-next
unfolding listed_at
returns-in_err-next c =
    let body = c.args.body.now in
    let value = short-value _ _ _ _ c.in_ok-count.ensures in
    let next = short-next _ _ _ _ c.in_ok-count.ensures in
    handed-on _ _ c.from_residual-in_err-next.ensures.1 ∙
    refused-by _ _ _ ((λ j. (after (items_of c.args.kind (value j)) body (next j)).fault) ∙ place-fault _ _ c.in_err-next.ensures)

pub returns : goal.returns
unfolding listed_at
returns c = simp (short-value _ _ _ _ c.in_ok-count.ensures, short-next _ _ _ _ c.in_ok-count.ensures, place-read _ _ c.in_ok-next.ensures)
