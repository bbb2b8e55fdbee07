-- Both returns are the branches of `origin_of` with that test of the origin's byte.
use borrow.Author.Tests.{eq-eqb, ne_eqb}
use Rattle.wing_mirror.specs.Origin.{origin_of}
use Rattle.wing_mirror.proofs.record.origin_in.Goals as goal

pub returns-then-rec-eq0 : goal.returns-then-rec-eq0
unfolding origin_of
returns-then-rec-eq0 c = simp (eq-eqb _ _ c.if-rec-eq0.true)

pub returns : goal.returns
unfolding origin_of
returns c = simp (ne_eqb _ _ c.if-rec-eq0.false)
