-- What the string getter answers, from the parts that the code makes.
use mathlib.Core.Path.{◌≡◌, refl, ◌∙◌, ap, sym, subst}
use mathlib.Core.Bool.{true, false}
use mathlib.Core.List.{List, ◌∷◌, ◌++◌}
use Prim.Native.Nat.{ℕ, suc, ◌-◌, ◌≤◌, ◌<◌}
use native.Mathlib.Omega.{arith}
use lib.Dec.{T}
use lib.IntN.{ℤ, pos, negsuc, nat_abs}
use lib.ListN.{length, replicate, length-replicate}
use lib.Signed.{lt_z}
use borrow.Author.Tests.{ltb-true, lt-ltb, le-ltb}
use mir.Syntax.{w32}
use mir.Val.{SFits}
use Rattle.wing_node.specs.Bytes.{placed}
use Rattle.wing_node.specs.Field.{put_at}
use Rattle.wing_node.specs.Decimal.{digits, decimal, last_digits}
use Rattle.wing_node.specs.Value.{answer_of, some}
use Rattle.wing_node.specs.declared.value.StringRead.{StringRead}
use Rattle.wing_node.proofs.Numerals.Spelled.{length_digits, last_digits-all}
use Rattle.wing_node.proofs.Numerals.Signs.{magnitude-fits}
use Rattle.wing_node.proofs.Arrays.{placed-zeros}
use Rattle.std.specs.Prelude.{Option, Some}

-- a string's answer has its length and its bytes, with zeros after them
pub answered : (s out : List ℕ) (k : ℕ) → k ≡ length s → out ≡ s ++ replicate (256 - length s) 0 → ◌≡◌ {A = Option StringRead} (Some (record { len = k; bytes = out })) (answer_of (some s))
unfolding answer_of
answered s out k e f = rw (e, f)

-- an i32 has at most ten digits
pub few : (x : ℤ) → SFits w32 x → (n k : ℕ) → n ≡ nat_abs x → k ≡ length (digits n) → k ≤ 10
few x f n k e l = omega (arith, magnitude-fits w32 x f, length_digits 9 n (omega (arith, magnitude-fits w32 x f)))

-- the decimal of x, by the last k digits of its magnitude n, which has as many
at_least : (x : ℤ) → lt_z x (pos 0) ≡ false → digits (nat_abs x) ≡ decimal x
unfolding decimal
at_least (pos m) t = refl
at_least (negsuc m) t = absurd (subst T t tt)

below : (x : ℤ) → lt_z x (pos 0) ≡ true → 0x2d ∷ digits (nat_abs x) ≡ decimal x
unfolding decimal
below (pos m) t = let h : m < 0 = ltb-true m 0 t in absurd (omega arith)
below (negsuc m) t = refl

module _ (x : ℤ) (n k : ℕ) (l : k ≡ length (digits n)) (e : n ≡ nat_abs x) where
  all_of : last_digits k n ≡ digits (nat_abs x)
  all_of = ap (λ j. last_digits j n) l ∙ last_digits-all n ∙ ap digits e

  pub from_zero : lt_z x (pos 0) ≡ false → last_digits k n ≡ decimal x
  from_zero t = all_of ∙ at_least x t

  pub below-zero : lt_z x (pos 0) ≡ true → 0x2d ∷ last_digits k n ≡ decimal x
  below-zero t = ap (λ (s : List ℕ). 0x2d ∷ s) all_of ∙ below x t

-- a text put where there is room for it is placed there, and else nothing is
pub put-there : (s d : List ℕ) (at : ℕ) → length s ≤ length d - at → placed d at s ≡ (put_at s at d).bytes
unfolding put_at
put-there s d at h = simp (le-ltb (length d - at) (length s) h)

pub put-not : (s d : List ℕ) (at : ℕ) → length d - at < length s → d ≡ (put_at s at d).bytes
unfolding put_at
put-not s d at h = simp (lt-ltb (length d - at) (length s) h)

-- a text at the front of zeros
pub put-zeros : (s : List ℕ) (m : ℕ) → length s ≤ m → (put_at s 0 (replicate m 0)).bytes ≡ s ++ replicate (m - length s) 0
put-zeros s m h = sym (put-there s (replicate m 0) 0 (omega (arith, length-replicate {A = ℕ} m 0))) ∙ placed-zeros m s

-- no decimal of an i32 has more than eleven bytes
pub decimal-few : (x : ℤ) → SFits w32 x → length (decimal x) ≤ 11
unfolding decimal
decimal-few (pos m) f = omega (arith, few (pos m) f m (length (digits m)) refl refl)
decimal-few (negsuc m) f = omega (arith, few (negsuc m) f (suc m) (length (digits (suc m))) refl refl)
