-- Hex digits and pairs: tests, and pairs of bytes back.
use Prim.Native.Nat.{ℕ, zero, suc, ◌+◌, ◌-◌, ◌*◌, ◌/◌, ◌%◌, ◌≤◌, ◌<◌}
use mathlib.Core.Bool.{Bool, true, false}
use mathlib.Core.Path.{◌≡◌, refl, sym, ap, ◌∙◌}
use mathlib.Core.Logic.{◌⊎◌, inl, inr, ⊎_elim}
use mathlib.Core.List.{List, [], ◌∷◌}
use native.Mathlib.Omega.{arith}
use borrow.Author.Tests.{ltb-true, ltb-false, leb-true, eqb-true, lt-ltb, le-ltb, le-leb, lt-leb, eq-eqb}
use lib.Dec.{ltb, leb, eqb}
use lib.ListN.{length, get_or, set, take}
use lib.Seq.{sets}
use Rattle.wing_node.specs.Bool.{and, or}
use Rattle.wing_node.specs.Bytes.{joined}
use Rattle.wing_node.proofs.Branches.{if-both, and_left, and_right}
use Rattle.wing_node.proofs.Numerals.Numbers.{Digits}
use Rattle.wing_node.proofs.Numerals.Placed.{lay-more}
use Rattle.wing_mirror.specs.Table.{every}
use Rattle.wing_listing.specs.Integers.{is_digit}
use Rattle.wing_listing.specs.Hex.{hex_digit, hex_value, is_hex, pair_of, pairs_of, from_pairs, are_pairs}
use Rattle.wing_listing.proofs.Printing.Pairs.{length_pairs}
use Rattle.wing_listing.proofs.Texts.Numbers.{by-test, digit-high, digit-range}

pub hex-low : (a : ℕ) → a ≤ 0x39 → leb 0x30 a ≡ is_hex a
unfolding is_hex is_digit
hex-low a h = rw (le-leb a 0x39 h, lt-leb 0x61 a (omega arith)) (both (leb 0x30 a))
  where
    both : (t : Bool) → t ≡ or (and t true) false
    both true = refl
    both false = refl

pub hex-high : (a : ℕ) → 0x61 ≤ a → leb a 0x66 ≡ is_hex a
unfolding is_hex
hex-high a h = rw (digit-high a (omega arith), le-leb 0x61 a h)

-- what is a digit has a value below 16, and is the digit of it
pub hex-range : (a : ℕ) → is_hex a ≡ true → ((0x30 ≤ a) × (a ≤ 0x39)) ⊎ ((0x61 ≤ a) × (a ≤ 0x66))
unfolding is_hex
hex-range a e =
    by-test (is_digit a) (λ t. inl (digit-range a t))
    (λ t. let o : and (leb 0x61 a) (leb a 0x66) ≡ true = rw t at e in inr (leb-true 0x61 a (and_left (leb 0x61 a) (leb a 0x66) o), leb-true a 0x66 (and_right (leb 0x61 a) (leb a 0x66) o)))

pub value_low : (a : ℕ) → a ≤ 0x39 → hex_value a ≡ a - 0x30
unfolding hex_value
value_low a h = rw (le-leb a 0x39 h)

pub value-high : (a : ℕ) → 0x39 < a → hex_value a ≡ a - 0x57
unfolding hex_value
value-high a h = rw (lt-leb a 0x39 h)

pub value-below : (a : ℕ) → is_hex a ≡ true → hex_value a < 16
value-below a e = ⊎_elim (λ r. omega (arith, value_low a r.1, r.0, r.1)) (λ r. omega (arith, value-high a (omega (arith, r.0)), r.0, r.1)) (hex-range a e)

pub digit_value : (a : ℕ) → is_hex a ≡ true → hex_digit (hex_value a) ≡ a
unfolding hex_digit
digit_value a e =
    ⊎_elim (λ r. let v = value_low a r.1 in rw (lt-ltb (hex_value a) 10 (omega (arith, r.0, r.1))) (omega (arith, r.0)))
    (λ r. let v = value-high a (omega (arith, r.0)) in rw (le-ltb (hex_value a) 10 (omega (arith, r.0, r.1))) (omega (arith, r.0)))
    (hex-range a e)

pub value-digit : (d : ℕ) → d < 16 → (is_hex (hex_digit d) ≡ true) × (hex_value (hex_digit d) ≡ d)
unfolding hex_digit
value-digit d h =
    by-test (ltb d 10)
    (λ t. let k = ltb-true d 10 t in rw t (sym (hex-low (0x30 + d) (omega arith)) ∙ le-leb 0x30 (0x30 + d) (omega arith), value_low (0x30 + d) (omega arith) ∙ omega arith))
    (λ t. let k = ltb-false d 10 t in rw t (sym (hex-high (0x57 + d) (omega arith)) ∙ le-leb (0x57 + d) 0x66 (omega arith), value-high (0x57 + d) (omega arith) ∙ omega arith))

-- ---- pairs

pub length_from : (s : List ℕ) → length (from_pairs s) ≡ length s / 2
unfolding from_pairs
length_from [] = refl
length_from (a ∷ []) = refl
length_from (a ∷ b ∷ s) = omega (arith, length_from s)

pub from_at : (s : List ℕ) (i : ℕ) → 2 * i + 1 < length s → get_or (from_pairs s) i 0 ≡ hex_value (get_or s (2 * i) 0) * 16 + hex_value (get_or s (2 * i + 1) 0)
unfolding from_pairs
from_at [] i h = absurd (omega arith)
from_at (a ∷ []) i h = absurd (omega arith)
from_at (a ∷ b ∷ s) zero h = refl
from_at (a ∷ b ∷ s) (suc i) h =
    let e : 2 * suc i ≡ suc (suc (2 * i)) = omega arith in
    let f : 2 * suc i + 1 ≡ suc (suc (2 * i + 1)) = omega arith in
    from_at s i (omega arith) ∙ ap (λ j. hex_value (get_or (a ∷ b ∷ s) j 0) * 16 + hex_value (get_or s (2 * i + 1) 0)) (sym e) ∙ ap (λ j. hex_value (get_or (a ∷ b ∷ s) (2 * suc i) 0) * 16 + hex_value (get_or (a ∷ b ∷ s) j 0)) (sym f)

-- a turn of a loop that lays them: the byte of the i-th pair
pub from-turn : (out o s : List ℕ) (at i x y : ℕ) → i < length s / 2 → x ≡ hex_value (get_or s (2 * i) 0) → y ≡ hex_value (get_or s (2 * i + 1) 0) →
    o ≡ sets out at (take i (from_pairs s)) → set o (at + i) (x * 16 + y) ≡ sets out at (take (i + 1) (from_pairs s))
from-turn out o s at i x y h p q e =
    rw (p, q, e, ← from_at s i (omega arith)) (lay-more out (from_pairs s) at i (omega (arith, length_from s)))

-- bytes of pairs are bytes, and their pairs are the text
pub from_bytes : (s : List ℕ) → every is_hex s ≡ true → Digits 256 (from_pairs s)
unfolding from_pairs every
from_bytes [] e i = omega arith
from_bytes (a ∷ []) e i = omega arith
from_bytes (a ∷ b ∷ s) e zero =
    let p = if-both (is_hex a) (every is_hex (b ∷ s)) e in
    let q = if-both (is_hex b) (every is_hex s) p.1 in
    omega (arith, value-below a p.0, value-below b q.0)
from_bytes (a ∷ b ∷ s) e (suc i) =
    let p = if-both (is_hex a) (every is_hex (b ∷ s)) e in
    from_bytes s (if-both (is_hex b) (every is_hex s) p.1).1 i

pairs-even : (s : List ℕ) → every is_hex s ≡ true → length s % 2 ≡ 0 → pairs_of (from_pairs s) ≡ s
unfolding from_pairs every joined pair_of
pairs-even [] e h = refl
pairs-even (a ∷ []) e h = absurd (omega arith)
pairs-even (a ∷ b ∷ s) e h =
    let p = if-both (is_hex a) (every is_hex (b ∷ s)) e in
    let q = if-both (is_hex b) (every is_hex s) p.1 in
    let x = hex_value a in
    let y = hex_value b in
    let u = value-below a p.0 in
    let v = value-below b q.0 in
    let d : (x * 16 + y) / 16 ≡ x = omega arith in
    let m : (x * 16 + y) % 16 ≡ y = omega arith in
    ap (λ j. hex_digit j ∷ hex_digit ((x * 16 + y) % 16) ∷ pairs_of (from_pairs s)) d ∙
    ap (λ j. hex_digit x ∷ hex_digit j ∷ pairs_of (from_pairs s)) m ∙
    ap (λ j. j ∷ hex_digit y ∷ pairs_of (from_pairs s)) (digit_value a p.0) ∙
    ap (λ j. a ∷ j ∷ pairs_of (from_pairs s)) (digit_value b q.0) ∙
    ap (λ (l : List ℕ). a ∷ b ∷ l) (pairs-even s q.1 (omega arith))

pub pairs-back : (s : List ℕ) → are_pairs s ≡ true → pairs_of (from_pairs s) ≡ s
unfolding are_pairs
pairs-back s e = pairs-even s (and_right (eqb (length s % 2) 0) (every is_hex s) e) (eqb-true (length s % 2) 0 (and_left (eqb (length s % 2) 0) (every is_hex s) e))

pub pairs-hex : (s : List ℕ) → are_pairs s ≡ true → (every is_hex s ≡ true) × (length s % 2 ≡ 0)
unfolding are_pairs
pairs-hex s e = (and_right (eqb (length s % 2) 0) (every is_hex s) e, eqb-true (length s % 2) 0 (and_left (eqb (length s % 2) 0) (every is_hex s) e))

-- and the pairs of bytes are in form and say the bytes

hex-pairs : (s : List ℕ) → Digits 256 s → (every is_hex (pairs_of s) ≡ true) × (from_pairs (pairs_of s) ≡ s)
unfolding joined pair_of every from_pairs
hex-pairs [] b = (refl, refl)
hex-pairs (a ∷ s) b =
    let h = b 0 in
    let x = value-digit (a / 16) (omega arith) in
    let y = value-digit (a % 16) (omega arith) in
    let r = hex-pairs s (λ i. b (suc i)) in
    let e : hex_value (hex_digit (a / 16)) * 16 + hex_value (hex_digit (a % 16)) ≡ a = omega (arith, x.1, y.1) in
    (rw (x.0, y.0) r.0, ap (λ j. j ∷ from_pairs (pairs_of s)) e ∙ ap (λ (l : List ℕ). a ∷ l) r.1)

pub pairs-formed : (s : List ℕ) → Digits 256 s → (are_pairs (pairs_of s) ≡ true) × (from_pairs (pairs_of s) ≡ s)
unfolding are_pairs
pairs-formed s b =
    let r = hex-pairs s b in
    (rw (eq-eqb (length (pairs_of s) % 2) 0 (omega (arith, length_pairs s))) r.0, r.1)
