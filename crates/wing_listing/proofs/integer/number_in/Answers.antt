-- The invariant: what n and the digits left spell is what all spell; a turn takes one digit (`up-digit`).
use Prim.Native.Nat.{◌+◌, ◌-◌, ◌*◌, min}
use mathlib.Core.Bool.{true, false}
use mathlib.Core.Path.{◌≡◌, sym, ap, ◌∙◌}
use native.Mathlib.Omega.{arith}
use borrow.Author.Rules.{rules}
use lib.ListN.{get_or, drop}
use Rattle.wing_listing.specs.Integers.{is_digit}
use Rattle.wing_listing.proofs.Texts.Drops.{drop-next, drop-none}
use Rattle.wing_listing.proofs.Texts.Numbers.{digit-ascii, up_from, up-all, up-end, up-digit, up-not}
use Rattle.wing_listing.proofs.integer.number_in.Goals as goal

pub loop-a-init : goal.loop-a-init
loop-a-init c = (omega arith, up-all c.args.s.now)

pub returns-then-not-is_ascii_digit : goal.returns-then-not-is_ascii_digit
returns-then-not-is_ascii_digit c =
    let s = c.args.s.now in
    let l = c.loop-a in
    let a = get_or s l.a-index 0 in
    let d : is_digit a ≡ false = sym (digit-ascii a) ∙ sym c.is_ascii_digit.ensures.value ∙ c.if-not-is_ascii_digit.true in
    sym (up-not l.n a (drop (l.a-index + 1) s) d) ∙ ap (up_from l.n) (sym (drop-next s l.a-index c.loop-a-test.true)) ∙ l.invariant.1

pub loop-a-preserved : goal.loop-a-preserved
loop-a-preserved c =
    let s = c.args.s.now in
    let l = c.loop-a in
    let a = get_or s l.a-index 0 in
    let d : is_digit a ≡ true = sym (digit-ascii a) ∙ sym c.is_ascii_digit.ensures.value ∙ c.if-not-is_ascii_digit.false in
    let e : c.min-n.result ≡ min (l.n * 10 + (a - 0x30)) 0x100000000 = search rules in
    (omega (arith, e), ap (λ m. up_from m (drop (l.a-index + 1) s)) e ∙ sym (up-digit l.n a (drop (l.a-index + 1) s) d) ∙ ap (up_from l.n) (sym (drop-next s l.a-index c.loop-a-test.true)) ∙ l.invariant.1)

pub returns : goal.returns
returns c =
    let s = c.args.s.now in
    let l = c.loop-a in
    sym (up-end l.n l.invariant.0) ∙ ap (up_from l.n) (sym (drop-none s l.a-index c.loop-a-test.false)) ∙ l.invariant.1
