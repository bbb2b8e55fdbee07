-- Bytes over the front of others, one after the other.
use mathlib.Core.Path.{◌≡◌, refl, ap}
use mathlib.Core.List.{List, [], ◌∷◌, ◌++◌}
use Prim.Native.Nat.{ℕ, zero, suc, ◌+◌, ◌≤◌, ◌<◌, min}
use native.Mathlib.Nat.{zero-min, min-zero, suc-min-suc, le_of_suc-le-suc, not-suc-le-zero}
use native.Mathlib.Numerals.{add-one}
use lib.ListN.{length, take, drop, get_or, set}
use Rattle.wing_wire.specs.Reader.{over}

over-suc : (s d : List ℕ) (i : ℕ) → i < length s → set (over (take i s) d) i (get_or s i 0) ≡ over (take (suc i) s) d
over-suc [] d i h = absurd (not-suc-le-zero h)
over-suc (a ∷ s) [] zero h = refl
over-suc (a ∷ s) [] (suc i) h = refl
over-suc (a ∷ s) (b ∷ d) zero h = refl
over-suc (a ∷ s) (b ∷ d) (suc i) h = ap (λ (l : List ℕ). a ∷ l) (over-suc s d i (le_of_suc-le-suc h))

-- one byte more
pub over-turn : (s d : List ℕ) (i : ℕ) → i < length s → set (over (take i s) d) i (get_or s i 0) ≡ over (take (i + 1) s) d
over-turn s d i h = rw (add-one i) (over-suc s d i h)

pub length_over : (s d : List ℕ) → length (over s d) ≡ length d
length_over [] d = refl
length_over (a ∷ s) [] = refl
length_over (a ∷ s) (b ∷ d) = ap suc (length_over s d)

-- past them the others are as they were
pub over-rest : (n : ℕ) (s d : List ℕ) → drop n (over (take n s) d) ≡ drop n d
over-rest zero s d = refl
over-rest (suc n) [] d = refl
over-rest (suc n) (a ∷ s) [] = refl
over-rest (suc n) (a ∷ s) (b ∷ d) = over-rest n s d

-- as far as both reach
pub over-least : (n : ℕ) (s d : List ℕ) → over (take (min (min n (length s)) (length d)) s) d ≡ over (take n s) d
over-least zero s d = rw (zero-min, zero-min)
over-least (suc n) [] d = rw (min-zero, zero-min)
over-least (suc n) (a ∷ s) [] = rw min-zero
over-least (suc n) (a ∷ s) (b ∷ d) = rw (suc-min-suc, suc-min-suc) (ap (λ (l : List ℕ). a ∷ l) (over-least n s d))

-- and where the other reaches as far
pub over-whole : (s d : List ℕ) → length s ≤ length d → over s d ≡ s ++ drop (length s) d
over-whole [] d h = refl
over-whole (a ∷ s) [] h = absurd (not-suc-le-zero h)
over-whole (a ∷ s) (b ∷ d) h = ap (λ (l : List ℕ). a ∷ l) (over-whole s d (le_of_suc-le-suc h))
