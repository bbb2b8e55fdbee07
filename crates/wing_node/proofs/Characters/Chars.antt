-- The character at the front of a list of bytes, by its lead byte, and the characters after it.
use Prim.Native.Nat.{ℕ, zero, suc, ◌+◌, ◌-◌, ◌≤◌, ◌<◌}
use mathlib.Core.Bool.{Bool, true, false}
use mathlib.Core.Path.{◌≡◌, refl, ap, sym, ◌∙◌}
use mathlib.Core.List.{List, [], ◌∷◌}
use native.Mathlib.Omega.{arith}
use native.Mathlib.Nat.{le_of_suc-le-suc}
use borrow.Author.Tests.{le-leb, eq-eqb, ne_eqb}
use lib.Dec.{ltb, eqb, leb-zero, eqb-suc-zero}
use lib.ListN.{length, drop, get_or, replicate, length-drop, drop_of_length-le}
use lib.Seq.{drop-cons, drop-drop}
use Rattle.wing_node.proofs.Branches.{if-both}
use Rattle.wing_node.specs.Bool.{if}
use Rattle.wing_node.specs.Utf8.{Range, ◌to◌, chars, holds, begins, first_that, row_of, lead_length, second, utf8_tail, char_length, good_from, good}
use Rattle.wing_node.proofs.Characters.Rows.{first_passes, first-narrow}
use Rattle.wing_node.proofs.Characters.Fronts.{if-if, holds-limits, begins-cons, begins-lead, begins-length, begins-inside, begins-at, begins-again}
use Rattle.wing_node.proofs.Characters.LeadBytes.{leads, rest, lead}

pub char-length-le : (s : List ℕ) → char_length s ≤ length s
unfolding char_length begins
char-length-le s = begins-length (first_that (λ row. begins row s) chars) s (first_passes (λ row. begins row s) chars refl)

length-if : (q : Bool) (row : List Range) → length (if q row []) ≡ if q (length row) 0
length-if true row = refl
length-if false row = refl

row-leads : (b : ℕ) → leads b (row_of b) ≡ true
unfolding row_of begins
row-leads b = first_passes (leads b) chars refl

-- the row of the lead byte is the row that s matches, if it matches one
pub by_row : (b : ℕ) (s : List ℕ) → b < 256 → char_length (b ∷ s) ≡ if (begins (row_of b) (b ∷ s)) (lead_length b) 0
unfolding char_length row_of lead_length
by_row b s h =
    ap length (first-narrow (λ row. begins row (b ∷ s)) (leads b) (λ row e. rw (begins-lead row b s, e)) chars (lead b h).one) ∙ length-if (begins (row_of b) (b ∷ s)) (row_of b)

pub by-lead : (b : ℕ) (s : List ℕ) → b < 256 → char_length (b ∷ s) ≡ if (begins (rest b) s) (lead_length b) 0
by-lead b s h = by_row b s h ∙ rw (begins-lead (row_of b) b s, row-leads b, (lead b h).follows)

-- the character at i, in the order in which the code looks at its bytes
pub char-at : (s : List ℕ) (i b : ℕ) → i < length s → get_or s i 0 ≡ b → b < 256 → char_length (drop i s) ≡
    if (ltb (lead_length b) 2) (lead_length b)
    (if (begins (second b ∷ []) (drop (i + 1) s)) (if (begins (replicate (lead_length b - 2) utf8_tail) (drop (i + 2) s)) (lead_length b) 0) 0)
unfolding begins
char-at s i b h e l = rw (← drop-drop 2 i s, ← drop-drop 1 i s, drop-cons s i 0 h, e) (by-lead b (drop (suc i) s) l ∙ go (ltb (lead_length b) 2))
  where
    more : List Range
    more = replicate (lead_length b - 2) utf8_tail

    t : List ℕ
    t = drop (suc i) s

    go : (q : Bool) → if (begins (if q [] (second b ∷ more)) t) (lead_length b) 0 ≡ if q (lead_length b) (if (begins (second b ∷ []) t) (if (begins more (drop 1 t)) (lead_length b) 0) 0)
    go true = refl
    go false = rw (begins-cons (second b) more t) (if-if (begins (second b ∷ []) t) (begins more (drop 1 t)) (lead_length b) 0)

ascii : (b : ℕ) (s : List ℕ) → b < 0x80 → char_length (b ∷ s) ≡ 1
unfolding char_length first_that begins holds
ascii b s h = let l : b ≤ 0x7f = omega arith in simp (leb-zero, le-leb _ _ l)

pub ascii-at : (s : List ℕ) (i : ℕ) → i < length s → get_or s i 0 < 0x80 → 1 ≡ char_length (drop i s)
ascii-at s i h l = rw (drop-cons s i 0 h) (sym (ascii _ _ l))

skip : (k : ℕ) (s : List ℕ) → k ≤ length s → good_from k s ≡ k + good_from 0 (drop k s)
unfolding good_from
skip zero s h = omega arith
skip (suc k) [] h = absurd (omega arith)
skip (suc k) (b ∷ s) h = omega (arith, skip k s (le_of_suc-le-suc h))

pub good-nil : good [] ≡ 0
unfolding good good_from
good-nil = refl

pub good-cons : (b : ℕ) (s : List ℕ) → good (b ∷ s) ≡ if (eqb (char_length (b ∷ s)) 0) 0 (char_length (b ∷ s) + good (drop (char_length (b ∷ s)) (b ∷ s)))
unfolding good good_from
good-cons b s = go (char_length (b ∷ s)) (char-length-le (b ∷ s))
  where
    go : (n : ℕ) → n ≤ suc (length s) → if (eqb n 0) 0 (1 + good_from (n - 1) s) ≡ if (eqb n 0) 0 (n + good_from 0 (drop n (b ∷ s)))
    go zero h = refl
    go (suc n) h =
        let p : suc n - 1 ≡ n = omega arith in
        let e : 1 + good_from n s ≡ suc n + good_from 0 (drop n s) = omega (arith, skip n s (le_of_suc-le-suc h)) in
        rw (p, eqb-suc-zero n) e

module _ (s : List ℕ) (i n : ℕ) (h : i < length s) (e : n ≡ char_length (drop i s)) where
  turn : good (drop i s) ≡ if (eqb n 0) 0 (n + good (drop (i + n) s))
  turn = rw (← drop-drop n i s, e) (rw (drop-cons s i 0 h) (good-cons _ _))

  pub inside : i + n ≤ length s
  inside = omega (arith, rw (length-drop i s) at (char-length-le (drop i s)))

  pub passed : (n ≡ 0 → ⊥) → i + good (drop i s) ≡ i + n + good (drop (i + n) s)
  passed z = omega (arith, rw (ne_eqb n 0 z) at turn)

  pub stopped : n ≡ 0 → good (drop i s) ≡ 0
  stopped z = turn ∙ rw (eq-eqb n 0 z)

pub ended : (s : List ℕ) (i : ℕ) → length s ≤ i → good (drop i s) ≡ 0
ended s i h = rw (drop_of_length-le s h) good-nil

-- a run of ASCII
pub ascii-passed : (n : ℕ) (s : List ℕ) (i : ℕ) → begins (replicate n (0x00 to 0x7f)) (drop i s) ≡ true → i + good (drop i s) ≡ i + n + good (drop (i + n) s)
ascii-passed zero s i e = let z : i + 0 ≡ i = omega arith in rw z
ascii-passed (suc n) s i e =
    let less : suc n - 1 ≡ n = omega arith in
    let on : i + suc n ≡ i + 1 + n = omega arith in
    let p = if-both _ _ (rw less at (sym (begins-again (0x00 to 0x7f) s i (suc n) (omega arith)) ∙ e)) in
    let h = begins-inside (0x00 to 0x7f) s i p.0 in
    let b = (holds-limits (0x00 to 0x7f) (get_or s i 0) (sym (begins-at (0x00 to 0x7f) s i h) ∙ p.0)).1 in
    passed s i 1 h (ascii-at s i h (omega arith)) (λ z. omega arith) ∙ rw on (ascii-passed n s (i + 1) p.1)
