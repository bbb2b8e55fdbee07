-- Both returns are the branches of `pending_in`.
use borrow.Author.Tests.{eq-eqb, ne_eqb}
use Rattle.wing_saved.specs.Saved.{pending_in}
use Rattle.wing_saved.proofs.pending_in.Goals as goal

pub returns-then-mark-eq1 : goal.returns-then-mark-eq1
unfolding pending_in
returns-then-mark-eq1 c = simp (eq-eqb _ _ c.if-mark-eq1.true)

pub returns : goal.returns
unfolding pending_in
returns c = simp (ne_eqb _ _ c.if-mark-eq1.false)
