-- Both returns are the branches of `body_done` with that test of the count.
use mir.Facts.{to_z-of_z}
use borrow.Author.Tests.{le-leb, lt-leb}
use Rattle.wing_wire.specs.Unit.{body_done}
use Rattle.wing_wire.proofs.unit.body_done.Goals as goal

pub returns-then-want-le-BODY_LIMIT : goal.returns-then-want-le-BODY_LIMIT
unfolding body_done
returns-then-want-le-BODY_LIMIT c = simp (le-leb _ _ c.if-want-le-BODY_LIMIT.true, c.taken_of.ensures) (rw (to_z-of_z c.ranges.node))

pub returns : goal.returns
unfolding body_done
returns c = simp (lt-leb _ _ c.if-want-le-BODY_LIMIT.false, c.refuse.ensures) (rw (to_z-of_z c.ranges.node))
