-- Each return is the branch of `step_at` with that test, and the contracts of `has_items` and `read_item` give what is tested.
use mathlib.Core.Path.{sym, ◌∙◌}
use borrow.Author.Tests.{eq-eqb, ne_eqb}
use Rattle.wing_node.specs.Items.{step_at}
use Rattle.wing_node.proofs.Bodies.Fails.{item-read, item-fault}
use Rattle.wing_node.proofs.items.item_step.Goals as goal

pub returns-then-walk-eq0 : goal.returns-then-walk-eq0
unfolding step_at
returns-then-walk-eq0 c = simp (eq-eqb _ _ c.if-walk-eq0.true, c.stay.ensures)

pub returns-in-Ok : goal.returns-in-Ok
unfolding step_at
returns-in-Ok c = simp (ne_eqb _ _ c.if-walk-eq0.false, ← c.has_items.ensures, c.if-has_items.true, item-read _ _ (sym c.in-Ok.is ∙ c.read_item.ensures), c.stay-in-Ok.ensures)

pub returns-in-Err : goal.returns-in-Err
unfolding step_at
returns-in-Err c = simp (ne_eqb _ _ c.if-walk-eq0.false, ← c.has_items.ensures, c.if-has_items.true, item-fault _ _ (sym c.in-Err.is ∙ c.read_item.ensures), c.stay-in-Err.ensures)

pub returns : goal.returns
unfolding step_at
returns c = simp (ne_eqb _ _ c.if-walk-eq0.false, ← c.has_items.ensures, c.if-has_items.false, c.stay-2.ensures)
