-- How long all keep-alives are at most: 721,397 bytes, for ids 65,535 to 1 and the port dfdf.
use Prim.Native.Nat.{ℕ, zero, suc, ◌+◌, ◌*◌, ◌-◌, ◌/◌, ◌%◌, min, ◌≤◌, ◌<◌}
use mathlib.Core.Path.{◌≡◌, refl}
use mathlib.Core.Bool.{Bool, true, false}
use mathlib.Core.List.{List, [], ◌∷◌}
use native.Mathlib.Omega.{arith}
use lib.Dec.{eqb}
use lib.ListN.{length, length-append}
use borrow.Author.Tests.{eqb-true, eqb-false}
use Rattle.wing_node.specs.Bool.{if}
use Rattle.wing_node.specs.Digits.{digits_in}
use Rattle.wing_wire.specs.Write.{escaped, field}
use Rattle.wing_wire.specs.Meter.{keep_alive, keep_alives}
use Rattle.wing_wire.proofs.Writing.Sizes.{field-le}

-- 1 for the byte that is followed by de
abbrev marked : ℕ → ℕ
marked b = if (eqb b 0xdf) 1 0

one-length : (b : ℕ) (s : List ℕ) → length (escaped (b ∷ s)) ≡ suc (marked b + length (escaped s))
unfolding escaped
one-length b s = go (eqb b 0xdf)
  where
    go : (q : Bool) → length (if q (0xdf ∷ 0xde ∷ escaped s) (b ∷ escaped s)) ≡ suc (if q 1 0 + length (escaped s))
    go true = omega arith
    go false = omega arith

field-length : (n : ℕ) → length (field 2 n) ≡ 2 + (marked (n / 256 % 256) + marked (n % 256))
unfolding digits_in escaped
field-length n = omega (arith, one-length (n / 256 % 256) (n % 256 ∷ []), one-length (n % 256) [])

-- the ids from 1 on whose low byte is df, and whose high byte is
lows : ℕ → ℕ
lows zero = 0
lows (suc n) = marked (suc n % 256) + lows n

highs : ℕ → ℕ
highs zero = 0
highs (suc n) = marked (suc n / 256 % 256) + highs n

lows-are : (n : ℕ) → lows n ≡ (n + 33) / 256
unfolding lows
lows-are zero = omega arith
lows-are (suc n) = go (eqb (suc n % 256) 0xdf) refl (lows-are n)
  where
    go : (q : Bool) → eqb (suc n % 256) 0xdf ≡ q → lows n ≡ (n + 33) / 256 → if q 1 0 + lows n ≡ (suc n + 33) / 256
    go true e ih = omega (arith, eqb-true (suc n % 256) 0xdf e)
    go false e ih = let ne = eqb-false (suc n % 256) 0xdf e in omega arith

highs-are : (n : ℕ) → n < 65536 → highs n ≡ min (n - 57087) 256
unfolding highs
highs-are zero h = omega arith
highs-are (suc n) h = go (eqb (suc n / 256 % 256) 0xdf) refl (highs-are n (omega arith))
  where
    go : (q : Bool) → eqb (suc n / 256 % 256) 0xdf ≡ q → highs n ≡ min (n - 57087) 256 → if q 1 0 + highs n ≡ min (suc n - 57087) 256
    go true e ih = omega (arith, eqb-true (suc n / 256 % 256) 0xdf e)
    go false e ih = let ne = eqb-false (suc n / 256 % 256) 0xdf e in omega arith

alive-length : (port id : ℕ) → length (keep_alive port id) ≡ 7 + (marked (id / 256 % 256) + marked (id % 256)) + length (field 2 port)
unfolding keep_alive
alive-length port id = simp length-append (omega (arith, field-length id))

up_to : (port n : ℕ) → length (keep_alives port n) ≤ 11 * n + (lows n + highs n)
unfolding keep_alives lows highs
up_to port zero = omega arith
up_to port (suc n) =
    simp length-append (omega (arith, alive-length port (suc n), field-le 2 port, up_to port n))

exactly : (n : ℕ) → length (keep_alives 0xdfdf n) ≡ 11 * n + (lows n + highs n)
unfolding keep_alives lows highs
exactly zero = omega arith
exactly (suc n) =
    let p : length (field 2 0xdfdf) ≡ 4 = field-length 0xdfdf in
    simp length-append (omega (arith, alive-length 0xdfdf (suc n), p, exactly n))

pub keep-alives-most : (port last : ℕ) → last < 65536 → length (keep_alives port last) ≤ 721397
keep-alives-most port last h = omega (arith, up_to port last, lows-are last, highs-are last h)

pub keep-alives-reached : length (keep_alives 0xdfdf 65535) ≡ 721397
keep-alives-reached = omega (arith, exactly 65535, lows-are 65535, highs-are 65535 (omega arith))
