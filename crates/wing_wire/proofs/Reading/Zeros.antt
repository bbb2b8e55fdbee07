-- Whether all bytes from a place on are 0: the bytes so far joined by or, and those that are left.
use mathlib.Core.Bool.{Bool, true, false}
use mathlib.Core.Path.{◌≡◌, refl}
use mathlib.Core.List.{List, [], ◌∷◌}
use Prim.Native.Nat.{ℕ, zero, suc, ◌+◌, ◌≤◌, ◌<◌, min}
use native.Mathlib.Nat.{zero-min, min-zero, suc-min-suc}
use native.Mathlib.Numerals.{add-one}
use native.Mathlib.Omega.{arith}
use borrow.Author.Tests.{eq-eqb, ne_eqb, eqb-true, eqb-false}
use lib.Bits.{bit_or, or_add_and, and_le_l, and_le_r}
use lib.Dec.{eqb}
use lib.ListN.{length, drop, get_or, drop_of_length-le}
use lib.Seq.{drop-cons}
use Rattle.wing_node.specs.Bool.{and}
use Rattle.wing_wire.specs.State.{zeros}

-- two numbers joined by or are 0 if both are
or-eqb : (a b : ℕ) → eqb (bit_or a b) 0 ≡ and (eqb a 0) (eqb b 0)
or-eqb a b = go (eqb a 0) (eqb b 0) refl refl
  where
    go : (p q : Bool) → eqb a 0 ≡ p → eqb b 0 ≡ q → eqb (bit_or a b) 0 ≡ and p q
    go true true e f = eq-eqb (bit_or a b) 0 (omega (arith, or_add_and a b, eqb-true a 0 e, eqb-true b 0 f))
    go true false e f = ne_eqb (bit_or a b) 0 (λ z. omega (arith, or_add_and a b, and_le_l a b, eqb-false b 0 f))
    go false q e f = ne_eqb (bit_or a b) 0 (λ z. omega (arith, or_add_and a b, and_le_r a b, eqb-false a 0 e))

and_assoc : (p q r : Bool) → and p (and q r) ≡ and (and p q) r
and_assoc true q r = refl
and_assoc false q r = refl

pub one_more : (s : List ℕ) (i bits : ℕ) → i < length s →
    and (eqb bits 0) (zeros (drop i s)) ≡ and (eqb (bit_or bits (get_or s i 0)) 0) (zeros (drop (i + 1) s))
unfolding zeros
one_more s i bits h =
    rw (or-eqb bits (get_or s i 0), add-one i, drop-cons s i 0 h) (and_assoc (eqb bits 0) (eqb (get_or s i 0) 0) (zeros (drop (suc i) s)))

and-true : (p : Bool) → and p true ≡ p
and-true true = refl
and-true false = refl

pub no_more : (s : List ℕ) (i bits : ℕ) → length s ≤ i → and (eqb bits 0) (zeros (drop i s)) ≡ eqb bits 0
unfolding zeros
no_more s i bits h = rw (drop_of_length-le s h) (and-true (eqb bits 0))

-- from the end on there is nothing, as from a place past it
pub drop_least : (n : ℕ) (s : List ℕ) → drop (min n (length s)) s ≡ drop n s
drop_least zero s = rw zero-min
drop_least (suc n) [] = rw min-zero
drop_least (suc n) (a ∷ s) = rw suc-min-suc (drop_least n s)
