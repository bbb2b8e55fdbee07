-- `item_at` opened is two strings one after the other; the first that is refused refuses the item.
use mathlib.Core.Path.{◌∙◌}
use Rattle.wing_node.specs.Cursor.{reads, after}
use Rattle.wing_node.specs.Definition.{item_at}
use Rattle.wing_node.proofs.Refusals.{handed-on}
use Rattle.wing_node.proofs.Bodies.Fails.{refused-by, field-read, field-next, field-fault, stop, on}
use Rattle.wing_node.proofs.definition.string_item.Goals as goal

pub returns-in_err-item : goal.returns-in_err-item
unfolding item_at
returns-in_err-item c = handed-on _ _ c.from_residual.ensures.1 ∙ refused-by _ _ _ (stop _ _ _ _ _ (field-fault _ _ c.in_err-item.ensures))

pub returns-in_err-long_item : goal.returns-in_err-long_item
unfolding item_at
returns-in_err-long_item c =
    handed-on _ _ c.from_residual-in_err-long_item.ensures.1 ∙ refused-by _ _ _ (on _ _ _ _ _ _ (field-next _ _ c.in_ok-item.ensures) (stop _ _ _ _ _ (field-fault _ _ c.in_err-long_item.ensures)))

pub returns : goal.returns
unfolding item_at reads after
returns c = simp (field-read _ _ c.in_ok-item.ensures, field-read _ _ c.in_ok-long_item.ensures, c.span_of.ensures, c.span_of-2.ensures)
