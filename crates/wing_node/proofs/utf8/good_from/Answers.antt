-- The invariant: the good bytes from the start on end where those from i on end; a turn passes one whole character.
use mathlib.Core.Path.{◌∙◌}
use native.Mathlib.Omega.{arith}
use Rattle.wing_node.proofs.Characters.Chars.{ascii-at, inside, passed, stopped, ended}
use Rattle.wing_node.proofs.utf8.good_from.Goals as goal

pub loop-i-preserved-then-s-i-lt128 : goal.loop-i-preserved-then-s-i-lt128
loop-i-preserved-then-s-i-lt128 c =
    let h = c.loop-i-test.true in
    c.loop-i.invariant ∙ passed _ _ 1 h (ascii-at _ _ h c.if-s-i-lt128.true) (λ z. omega arith)

pub returns-then-length-eq0 : goal.returns-then-length-eq0
returns-then-length-eq0 c =
    let h = c.loop-i-test.true in
    omega (arith, c.loop-i.invariant, stopped c.args.s.now c.loop-i.i _ h c.char_length-length.ensures c.if-length-eq0.true)

pub overflow_add-i-else-s-i-lt128 : goal.overflow_add-i-else-s-i-lt128
overflow_add-i-else-s-i-lt128 c = omega (arith, inside _ _ _ c.loop-i-test.true c.char_length-length.ensures)

pub loop-i-smaller : goal.loop-i-smaller
loop-i-smaller c = omega (arith, inside _ _ _ c.loop-i-test.true c.char_length-length.ensures)

pub loop-i-preserved : goal.loop-i-preserved
loop-i-preserved c =
    let h = c.loop-i-test.true in
    let e = c.char_length-length.ensures in
    c.loop-i.invariant ∙ passed _ _ _ h e c.if-length-eq0.false

pub returns : goal.returns
returns c = omega (arith, c.loop-i.invariant, ended c.args.s.now c.loop-i.i c.loop-i-test.false)
