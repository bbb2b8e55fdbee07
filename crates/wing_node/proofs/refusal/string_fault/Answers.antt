-- The first n bytes are all good exactly where they are UTF-8 (`good_len`'s contract on the slice); so a good is at most n and fits 16 bits.
use mathlib.Core.Path.{◌≡◌, sym, ◌∙◌}
use native.Mathlib.Omega.{arith}
use borrow.Author.Tests.{eq-eqb, ne_eqb}
use lib.ListN.{length, take, length-take}
use lib.Seq.{length-take-le}
use Rattle.wing_node.specs.Utf8.{good, utf8}
use Rattle.wing_node.specs.Refusal.{string_fault}
use Rattle.wing_node.proofs.Bodies.Checks.{take-there}
use Rattle.wing_node.proofs.refusal.string_fault.Goals as goal

pub slice_bounds-good_len-end : goal.slice_bounds-good_len-end
slice_bounds-good_len-end c = sym (length-take-le _ _ (omega (arith, c.min-len.ensures)))

pub returns-then-good-len : goal.returns-then-good-len
unfolding string_fault utf8
returns-then-good-len c =
    let args = c.args in
    let len = c.min-len.result in
    let front = take len args.s.now in
    let long = length-take-le len args.s.now (omega (arith, c.min-len.ensures)) in
    let all : good front ≡ length front = sym c.good_len-good.ensures.value ∙ c.if-good-len.true ∙ sym long in
    rw (← take-there args.n args.s.now, ← c.min-len.ensures, eq-eqb (good front) (length front) all)

pub overflow_cast-result : goal.overflow_cast-result
overflow_cast-result c =
    let args = c.args in
    let len = c.min-len.result in
    omega (arith, c.good_len-good.ensures.longest.within, length-take len args.s.now, c.min-len.ensures, c.ranges.n)

pub returns : goal.returns
unfolding string_fault utf8
returns c =
    let args = c.args in
    let len = c.min-len.result in
    let front = take len args.s.now in
    let long = length-take-le len args.s.now (omega (arith, c.min-len.ensures)) in
    rw (← take-there args.n args.s.now, ← c.min-len.ensures, ne_eqb (good front) (length front) (λ e. c.if-good-len.false (c.good_len-good.ensures.value ∙ e ∙ long)), ← c.good_len-good.ensures.value)
