-- All of it is good exactly where it is UTF-8 (`good_len`'s contract); a good of at most 255 fits 16 bits.
use mathlib.Core.Path.{sym, ◌∙◌}
use native.Mathlib.Omega.{arith}
use borrow.Author.Tests.{eq-eqb, ne_eqb}
use lib.ListN.{length}
use Rattle.wing_node.specs.Utf8.{good, utf8}
use Rattle.wing_node.specs.Refusal.{text_fault}
use Rattle.wing_node.proofs.writer.text_fault.Goals as goal

pub returns-then-good-s : goal.returns-then-good-s
unfolding text_fault utf8
returns-then-good-s c =
    let s = c.args.s.now in
    rw (eq-eqb (good s) (length s) (sym c.good_len-good.ensures.value ∙ c.if-good-s.true))

pub overflow_cast-result : goal.overflow_cast-result
overflow_cast-result c = omega (arith, c.good_len-good.ensures.longest.within)

pub returns : goal.returns
unfolding text_fault utf8
returns c =
    let s = c.args.s.now in
    rw (ne_eqb (good s) (length s) (λ e. c.if-good-s.false (c.good_len-good.ensures.value ∙ e)), ← c.good_len-good.ensures.value)
