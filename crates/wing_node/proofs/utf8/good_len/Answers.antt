-- The invariant: the good bytes end where those from i on end; a turn passes four bytes of ASCII, `good_from` tells of the rest, and `longest-by`
-- makes it the grammar's answer.
use mathlib.Core.Path.{sym, ◌∙◌}
use native.Mathlib.Omega.{arith}
use Rattle.wing_node.proofs.Characters.Fronts.{begins-room}
use Rattle.wing_node.proofs.Characters.Chars.{ascii-passed}
use Rattle.wing_node.proofs.Characters.Grammar.{longest-by}
use Rattle.wing_node.proofs.utf8.good_len.Goals as goal

pub overflow_add-i : goal.overflow_add-i
overflow_add-i c =
    let s = c.args.s.now in
    omega (arith, begins-room 4 _ s c.loop-i.i (sym c.ascii_4.ensures ∙ c.loop-i-test.true))

pub loop-i-smaller : goal.loop-i-smaller
loop-i-smaller c =
    let s = c.args.s.now in
    omega (arith, begins-room 4 _ s c.loop-i.i (sym c.ascii_4.ensures ∙ c.loop-i-test.true))

pub loop-i-preserved : goal.loop-i-preserved
loop-i-preserved c =
    let s = c.args.s.now in
    c.loop-i.invariant ∙ ascii-passed 4 s c.loop-i.i (sym c.ascii_4.ensures ∙ c.loop-i-test.true)

pub returns : goal.returns
returns c = let p = longest-by _ (c.good_from.ensures ∙ sym c.loop-i.invariant) in record { value = p.0; longest = p.1 }
