-- Both returns are the branches of `numbered_from`: `past_items` gives the place after the items before it, and `item_step` the item there. The
-- items of a body that the parser takes are not refused (`items-pass`).
use mathlib.Core.Path.{ap, sym, ◌∙◌}
use mathlib.Core.Bool.{true≢false}
use borrow.Author.Tests.{le-leb, lt-leb}
use Rattle.std.specs.Prelude.{is_err}
use Rattle.wing_node.specs.Items.{numbered_from}
use Rattle.wing_node.proofs.Bodies.Fails.{place-read, place-fault}
use Rattle.wing_node.proofs.Bodies.Walks.{items-pass}
use Rattle.wing_node.proofs.items.numbered.Goals as goal

pub returns-then-first-number : goal.returns-then-first-number
unfolding numbered_from
returns-then-first-number c = simp (le-leb _ _ c.if-first-number.true)

pub returns-in_err-at : goal.returns-in_err-at
returns-in_err-at c =
    absurd (true≢false (ap is_err (sym (place-fault _ _ c.in_err-at.ensures) ∙ items-pass c.args.body.now c.args.first c.args.number c.requires c.if-first-number.false)))

pub returns : goal.returns
unfolding numbered_from
returns c = simp (lt-leb _ _ c.if-first-number.false, place-read _ _ c.in_ok-at.ensures, c.item_step.ensures)
