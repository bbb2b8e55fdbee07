-- Inside the bytes the two tests are those of `holds` (`begins-at`); past the end no byte is left to match.
use mathlib.Core.Path.{sym}
use borrow.Author.Tests.{le-leb, lt-leb, ltb-true, ltb-false}
use lib.ListN.{drop_of_length-le}
use Rattle.wing_node.proofs.Characters.Fronts.{begins-at}
use Rattle.wing_node.specs.Utf8.{holds, begins}
use Rattle.wing_node.proofs.utf8.is_in_range.Goals as goal

pub returns-then-low-byte : goal.returns-then-low-byte
unfolding holds
returns-then-low-byte c =
    let there = c.in-Some.ensures.lookup in
    rw (begins-at _ _ _ (ltb-true _ _ (sym there.0)), ← there.3.1 0) (simp (le-leb _ _ c.if-low-byte.true))

pub returns-else-low-byte : goal.returns-else-low-byte
unfolding holds
returns-else-low-byte c =
    let there = c.in-Some.ensures.lookup in
    rw (begins-at _ _ _ (ltb-true _ _ (sym there.0)), ← there.3.1 0) (simp (lt-leb _ _ c.if-low-byte.false))

pub returns-in-None : goal.returns-in-None
unfolding begins
returns-in-None c = rw (drop_of_length-le _ (ltb-false _ _ (sym c.in-None.ensures.lookup.0)))
