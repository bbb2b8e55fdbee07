-- Hex pairs of bytes: how long they are, and a byte's pair laid after the others.
use Prim.Native.Nat.{ℕ, suc, ◌+◌, ◌*◌, ◌/◌, ◌%◌, ◌≤◌, ◌<◌}
use mathlib.Core.Path.{◌≡◌, refl}
use mathlib.Core.List.{List, [], ◌∷◌}
use native.Mathlib.Omega.{arith}
use native.Mathlib.Numerals.{add-one}
use lib.ListN.{length, drop, get_or, set, drop_of_length-le}
use lib.Seq.{sets, drop-cons}
use Rattle.wing_node.specs.Bytes.{joined}
use Rattle.wing_listing.specs.Hex.{hex_digit, pair_of, pairs_of}

-- two digits for each byte
pub length_pairs : (s : List ℕ) → length (pairs_of s) ≡ 2 * length s
unfolding joined pair_of
length_pairs [] = refl
length_pairs (b ∷ s) = omega (arith, length_pairs s)

-- the pairs from the i-th byte on
pub pairs_next : (s : List ℕ) (i : ℕ) → i < length s → pairs_of (drop i s) ≡ hex_digit (get_or s i 0 / 16) ∷ hex_digit (get_or s i 0 % 16) ∷ pairs_of (drop (i + 1) s)
unfolding joined pair_of
pairs_next s i h = rw (add-one i, drop-cons s i 0 h)

pub pairs-none : (s : List ℕ) (i : ℕ) → length s ≤ i → pairs_of (drop i s) ≡ []
unfolding joined
pairs-none s i h = rw (drop_of_length-le s h)

-- a turn: the pair of the i-th byte
pub pairs-turn : (out s : List ℕ) (at i x y : ℕ) → i < length s → x ≡ hex_digit (get_or s i 0 / 16) → y ≡ hex_digit (get_or s i 0 % 16) →
    sets (set (set out (at + 2 * i) x) (at + 2 * i + 1) y) (at + 2 * (i + 1)) (pairs_of (drop (i + 1) s)) ≡ sets out (at + 2 * i) (pairs_of (drop i s))
pairs-turn out s at i x y h p q =
    let z : at + 2 * (i + 1) ≡ suc (suc (at + 2 * i)) = omega arith in
    rw (z, p, q, add-one (at + 2 * i), pairs_next s i h)

-- those from the first on
pub pairs-all : (out s : List ℕ) (at : ℕ) → sets out (at + 2 * 0) (pairs_of (drop 0 s)) ≡ sets out at (pairs_of s)
pairs-all out s at = let z : at + 2 * 0 ≡ at = omega arith in rw z
