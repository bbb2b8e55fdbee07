-- Bytes as one number: whether all of them are ASCII, by one test of their high bits, at any width.
use Prim.Native.Nat.{ℕ, suc, ◌+◌, ◌-◌, ◌*◌, ◌/◌, ◌%◌, ◌≤◌, ◌<◌}
use mathlib.Core.Bool.{Bool, true, false}
use mathlib.Core.Path.{◌≡◌, refl, ap, sym, ◌∙◌}
use mathlib.Core.List.{List, [], ◌∷◌}
use native.Mathlib.Omega.{arith}
use borrow.Author.Tests.{eq-eqb, ne_eqb, eqb-true, eqb-false, leb-true, leb-false}
use lib.Bits.{bit_and, and_block, and_high}
use lib.Dec.{leb, eqb, leb-zero}
use lib.ListN.{length, take, drop, replicate, length-drop, length-replicate}
use lib.Seq.{length-take-le}
use Rattle.wing_node.specs.Bool.{if}
use Rattle.wing_node.specs.Digits.{number_from, number_in}
use Rattle.wing_node.specs.Field.{big, field_at}
use Rattle.wing_node.specs.Utf8.{◌to◌, holds, begins}
use Rattle.wing_node.proofs.Numerals.Numbers.{Digits, digits-take, digits-drop}
use Rattle.wing_node.proofs.Numerals.Placed.{field-whole}
use Rattle.wing_node.proofs.Characters.Fronts.{if-if, if-self, begins-take}

-- one byte more: x has the high bits of those before it
one_byte : (x b : ℕ) → b < 256 → eqb (x * 256 + bit_and b 0x80) 0 ≡ if (eqb x 0) (holds (0x00 to 0x7f) b) false
unfolding holds
one_byte x b h = rw (leb-zero b) (go (eqb x 0) (leb b 0x7f) refl refl)
  where
    high : (n : ℕ) → b / 128 ≡ n → bit_and b 0x80 ≡ n % 2 * 128
    high n e = and_high b 1 7 ∙ ap (λ (m : ℕ). m % 2 * 128) e

    go : (q p : Bool) → eqb x 0 ≡ q → leb b 0x7f ≡ p → eqb (x * 256 + bit_and b 0x80) 0 ≡ if q p false
    go true true e l = eq-eqb (x * 256 + bit_and b 0x80) 0 (omega (arith, high 0 (omega (arith, leb-true b 0x7f l)), eqb-true x 0 e))
    go true false e l = ne_eqb (x * 256 + bit_and b 0x80) 0 (λ z. omega (arith, high 1 (omega (arith, h, leb-false b 0x7f l))))
    go false p e l = ne_eqb (x * 256 + bit_and b 0x80) 0 (λ z. omega (arith, eqb-false x 0 e))

high_bits : (ds : List ℕ) (v m : ℕ) → Digits 256 ds → eqb (bit_and (number_from 256 v ds) (number_from 256 m (replicate (length ds) 0x80))) 0 ≡ if (eqb (bit_and v m) 0) (begins (replicate (length ds) (0x00 to 0x7f)) ds) false
unfolding number_from begins
high_bits [] v m d = sym (if-self (eqb (bit_and v m) 0))
high_bits (b ∷ ds) v m d =
    let rest = begins (replicate (length ds) (0x00 to 0x7f)) ds in
    high_bits ds (v * 256 + b) (m * 256 + 0x80) (λ i. d (suc i)) ∙
    ap (λ (x : ℕ). if (eqb x 0) rest false) (and_block 8 v m b 0x80 (d 0) (omega arith)) ∙
    ap (λ (q : Bool). if q rest false) (one_byte (bit_and v m) b (d 0)) ∙
    if-if (eqb (bit_and v m) 0) (holds (0x00 to 0x7f) b) rest false

-- n bytes at a place are ASCII if their number has none of their high bits
pub ascii-word : (n : ℕ) (s : List ℕ) (i : ℕ) → n ≤ length s - i → Digits 256 s → eqb (bit_and (field_at n s i) (big (replicate n 0x80))) 0 ≡ begins (replicate n (0x00 to 0x7f)) (drop i s)
unfolding number_in
ascii-word n s i h d =
    let l : length (take n (drop i s)) ≡ n = length-take-le n (drop i s) (omega (arith, length-drop i s)) in
    rw (field-whole n s i h)
    (rw l at (high_bits (take n (drop i s)) 0 0 (digits-take 256 n (drop i s) (digits-drop 256 i s d))) ∙
    rw (length-replicate n (0x00 to 0x7f)) at (begins-take (replicate n (0x00 to 0x7f)) (drop i s)))
