-- What the front of a list of bytes matches.
use Prim.Native.Nat.{ℕ, zero, suc, ◌+◌, ◌-◌, ◌≤◌, ◌<◌, zero-le, suc-le-suc}
use mathlib.Core.Bool.{Bool, true, false, true≢false, ◌&&◌}
use Rattle.std.specs.List.{list_all}
use mathlib.Core.Path.{◌≡◌, refl, ap, sym}
use mathlib.Core.List.{List, [], ◌∷◌, ◌++◌}
use native.Mathlib.Omega.{arith}
use borrow.Author.Tests.{le-leb, leb-true}
use lib.Dec.{leb}
use lib.ListN.{length, take, drop, get_or, replicate, length-drop, length-replicate}
use lib.Seq.{drop-cons, drop-drop}
use Rattle.wing_node.proofs.Branches.{if-both}
use Rattle.wing_node.specs.Bool.{if}
use Rattle.wing_node.specs.Utf8.{Range, Matches, end, byte, holds, begins}

-- a test that passes in two steps passes in each
pub holds-limits : (r : Range) (b : ℕ) → holds r b ≡ true → (r.low ≤ b) × (b ≤ r.high)
unfolding holds
holds-limits r b e = let p = if-both (leb r.low b) (leb b r.high) e in (leb-true _ _ p.0, leb-true _ _ p.1)

-- a test in two steps is one in the other
pub if-if : {A : Type 0} (p q : Bool) (a b : A) → if (if p q false) a b ≡ if p (if q a b) b
if-if true q a b = refl
if-if false q a b = refl

pub if-self : (q : Bool) → if q true false ≡ q
if-self true = refl
if-self false = refl

pub begins-cons : (r : Range) (rs : List Range) (s : List ℕ) → begins (r ∷ rs) s ≡ if (begins (r ∷ []) s) (begins rs (drop 1 s)) false
unfolding begins
begins-cons r rs [] = refl
begins-cons r rs (b ∷ s) = sym (if-if (holds r b) true (begins rs s) false)

-- a row and a byte: the row's first range holds it, and the rest of the row begins what follows
pub begins-lead : (row : List Range) (b : ℕ) (s : List ℕ) → begins row (b ∷ s) ≡ if (begins (take 1 row) (b ∷ [])) (begins (drop 1 row) s) false
unfolding begins
begins-lead [] b s = refl
begins-lead (r ∷ rs) b s = sym (if-if (holds r b) true (begins rs s) false)

pub begins-length : (row : List Range) (s : List ℕ) → begins row s ≡ true → length row ≤ length s
unfolding begins
begins-length [] s e = zero-le
begins-length (r ∷ rs) [] e = absurd (true≢false (sym e))
begins-length (r ∷ rs) (b ∷ s) e = suc-le-suc (begins-length rs s (if-both (holds r b) (begins rs s) e).1)

-- a row looks at no more bytes than it has ranges
pub begins-take : (row : List Range) (s : List ℕ) → begins row (take (length row) s) ≡ begins row s
unfolding begins
begins-take [] s = refl
begins-take (r ∷ rs) [] = refl
begins-take (r ∷ rs) (b ∷ s) = rw (begins-take rs s)

pub begins-short : (row : List Range) (s : List ℕ) → length s < length row → begins row s ≡ false
begins-short row s h = go (begins row s) refl
  where
    go : (q : Bool) → begins row s ≡ q → q ≡ false
    go true e = absurd (omega (arith, begins-length row s e))
    go false e = refl

pub begins-inside : (r : Range) (s : List ℕ) (i : ℕ) → begins (r ∷ []) (drop i s) ≡ true → i < length s
begins-inside r s i e = omega (arith, rw (length-drop i s) at (begins-length (r ∷ []) (drop i s) e))

pub begins-at : (r : Range) (s : List ℕ) (i : ℕ) → i < length s → begins (r ∷ []) (drop i s) ≡ holds r (get_or s i 0)
unfolding begins
begins-at r s i h = rw (drop-cons s i 0 h) (if-self (holds r (get_or s i 0)))

pub begins-room : (n : ℕ) (r : Range) (s : List ℕ) (i : ℕ) → begins (replicate n r) (drop i s) ≡ true → n ≤ length s - i
begins-room n r s i e = rw (length-replicate n r, length-drop i s) at (begins-length (replicate n r) (drop i s) e)

-- a byte of a range that is to be there n times
pub begins-again : (r : Range) (s : List ℕ) (i n : ℕ) → 0 < n → begins (replicate n r) (drop i s) ≡ if (begins (r ∷ []) (drop i s)) (begins (replicate (n - 1) r) (drop (i + 1) s)) false
begins-again r s i zero h = absurd (omega arith)
begins-again r s i (suc n) h =
    let p : suc n - 1 ≡ n = omega arith in
    rw (p, ← drop-drop 1 i s) (begins-cons r (replicate n r) (drop i s))

and-if : (p q x : Bool) → if (if p q false) x false ≡ ((p && q) && x)
and-if true true x = refl
and-if true false x = refl
and-if false q x = refl

-- n bytes of a range
pub begins-all : (r : Range) (n : ℕ) (s : List ℕ) → n ≤ length s → begins (replicate n r) s ≡ list_all (λ b. leb r.low b && leb b r.high) (take n s)
unfolding begins holds
begins-all r zero s h = refl
begins-all r (suc n) [] h = absurd (omega arith)
begins-all r (suc n) (b ∷ s) h = rw (begins-all r n s (omega arith)) (and-if (leb r.low b) (leb b r.high) (list_all (λ c. leb r.low c && leb c r.high) (take n s)))

pub begins-matches : (row : List Range) (s : List ℕ) → begins row s ≡ true → Matches row (take (length row) s)
unfolding begins
begins-matches [] s e = end
begins-matches (r ∷ rs) [] e = absurd (true≢false (sym e))
begins-matches (r ∷ rs) (b ∷ s) e =
    let p = if-both (holds r b) (begins rs s) e in
    let l = holds-limits r b p.0 in
    byte l.0 l.1 (begins-matches rs s p.1)

pub matches-begins : {row : List Range} {c : List ℕ} (s : List ℕ) → Matches row c → begins row (c ++ s) ≡ true
unfolding begins holds
matches-begins s end = refl
matches-begins s (byte l h m) = simp (le-leb _ _ l, le-leb _ _ h, matches-begins s m)

pub matches-length : {row : List Range} {c : List ℕ} → Matches row c → length row ≡ length c
matches-length end = refl
matches-length (byte l h m) = ap suc (matches-length m)
