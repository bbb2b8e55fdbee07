-- Both returns are the branches of `long_count_of` with that test of the count.
use mir.Facts.{to_z-of_z}
use borrow.Author.Tests.{eq-eqb, ne_eqb}
use Rattle.wing_wire.specs.Unit.{long_count_of}
use Rattle.wing_wire.proofs.unit.long_count.Goals as goal

pub returns-then-c-eq0 : goal.returns-then-c-eq0
unfolding long_count_of
returns-then-c-eq0 c = simp (eq-eqb _ _ c.if-c-eq0.true, c.refuse.ensures) (rw (to_z-of_z c.ranges.node))

pub returns : goal.returns
unfolding long_count_of
returns c = simp (ne_eqb _ _ c.if-c-eq0.false, c.body_of.ensures) (rw (to_z-of_z c.ranges.node))
