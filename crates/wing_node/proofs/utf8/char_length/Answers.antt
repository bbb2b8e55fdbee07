-- Each return is the branch of `char-at` with that test, which is `char_length` in the order in which the code looks at the bytes.
use Prim.Native.Nat.{ℕ, ◌<◌, ◌+◌, ◌-◌}
use mathlib.Core.List.{[], ◌∷◌}
use mathlib.Core.Path.{refl, sym, ap, ◌∙◌}
use native.Mathlib.Omega.{arith}
use borrow.Author.Tests.{lt-ltb, le-ltb}
use lib.ListN.{length, drop, replicate, get_or, length-drop, drop_of_length-le}
use lib.Seq.{take_all}
use Rattle.wing_node.specs.Utf8.{◌to◌, utf8_tail, begins, char_length, first_that}
use Rattle.wing_node.proofs.Characters.Fronts.{begins-inside}
use Rattle.wing_node.proofs.Characters.Chars.{char-at}
use Rattle.wing_node.proofs.utf8.char_length.Goals as goal

pub returns-then-length-lt2 : goal.returns-then-length-lt2
returns-then-length-lt2 c =
    let s = c.args.s.now in
    let i = c.args.i in
    let h : get_or s i 0 < 256 = omega (arith, c.type_inv.s i) in
    rw (char-at s i _ c.if-i-s.true refl h, ← c.lead_length-length.ensures) (simp (lt-ltb _ _ c.if-length-lt2.true))

pub slice_bounds-tails-count : goal.slice_bounds-tails-count
slice_bounds-tails-count c =
    omega (arith, begins-inside _ c.args.s.now (c.args.i + 1) (rw c.is_in_range.ensures at c.if-is_in_range.true))

pub slice_bounds-tails-start : goal.slice_bounds-tails-start
slice_bounds-tails-start c =
    omega (arith, begins-inside _ c.args.s.now (c.args.i + 1) (rw c.is_in_range.ensures at c.if-is_in_range.true))

pub returns-then-tails : goal.returns-then-tails
returns-then-tails c =
    let s = c.args.s.now in
    let i = c.args.i in
    let h : get_or s i 0 < 256 = omega (arith, c.type_inv.s i) in
    let e = c.is_in_range.ensures ∙ ap (λ (p : ℕ × ℕ). begins ((p.0 to p.1) ∷ []) (drop (i + 1) s)) c.second-low.ensures in
    let t = c.tails.ensures ∙ ap (begins (replicate (c.lead_length-length.result - 2) utf8_tail)) (take_all (length s - (i + 2)) (drop (i + 2) s) (omega (arith, length-drop (i + 2) s))) in
    rw (char-at s i _ c.if-i-s.true refl h, ← c.lead_length-length.ensures) (simp (le-ltb _ _ c.if-length-lt2.false, sym e ∙ c.if-is_in_range.true, ← t, c.if-tails.true))

pub returns-else-tails : goal.returns-else-tails
returns-else-tails c =
    let s = c.args.s.now in
    let i = c.args.i in
    let h : get_or s i 0 < 256 = omega (arith, c.type_inv.s i) in
    let e = c.is_in_range.ensures ∙ ap (λ (p : ℕ × ℕ). begins ((p.0 to p.1) ∷ []) (drop (i + 1) s)) c.second-low.ensures in
    let t = c.tails.ensures ∙ ap (begins (replicate (c.lead_length-length.result - 2) utf8_tail)) (take_all (length s - (i + 2)) (drop (i + 2) s) (omega (arith, length-drop (i + 2) s))) in
    rw (char-at s i _ c.if-i-s.true refl h, ← c.lead_length-length.ensures) (simp (le-ltb _ _ c.if-length-lt2.false, sym e ∙ c.if-is_in_range.true, ← t, c.if-tails.false))

pub returns-else-is_in_range : goal.returns-else-is_in_range
returns-else-is_in_range c =
    let s = c.args.s.now in
    let i = c.args.i in
    let h : get_or s i 0 < 256 = omega (arith, c.type_inv.s i) in
    let e = c.is_in_range.ensures ∙ ap (λ (p : ℕ × ℕ). begins ((p.0 to p.1) ∷ []) (drop (i + 1) s)) c.second-low.ensures in
    rw (char-at s i _ c.if-i-s.true refl h, ← c.lead_length-length.ensures) (simp (le-ltb _ _ c.if-length-lt2.false, sym e ∙ c.if-is_in_range.false))

pub returns-else-i-s : goal.returns-else-i-s
unfolding char_length first_that begins
returns-else-i-s c = rw (drop_of_length-le _ c.if-i-s.false)
