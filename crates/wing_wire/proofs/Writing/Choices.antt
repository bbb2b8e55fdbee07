-- The cases of written integers, ids and strings.
use Prim.Native.Nat.{ℕ, ◌^◌, ◌≤◌, ◌<◌}
use mathlib.Core.Path.{◌≡◌, refl, ap}
use mathlib.Core.Bool.{true, false}
use mathlib.Core.List.{List, [], ◌∷◌}
use native.Mathlib.Omega.{arith}
use lib.Dec.{T, leb}
use lib.ListN.{length}
use lib.IntN.{ℤ, pos, negsuc, nat_abs}
use lib.Signed.{mag, non_neg}
use borrow.Author.Tests.{leb-true, le-leb, lt-leb, ne_eqb}
use Rattle.wing_node.proofs.Branches.{if-both}
use Rattle.wing_node.specs.Signed.{unsigned}
use Rattle.wing_node.specs.Utf8.{utf8}
use Rattle.wing_node.specs.Value.{string}
use Rattle.wing_node.specs.Refusal.{string_not_utf8}
use Rattle.wing_wire.specs.Write.{field, write_effect, write_of}
use Rattle.wing_wire.specs.Command.{from◌to◌, integer_bytes, id_bytes, set_bytes, set_string, request_bytes}
use Rattle.wing_node.specs.declared.refusal.Refusal.TheVariants.{StringLong}
use Rattle.std.specs.Prelude.{Err}

pub small : (x : ℤ) → from◌to◌ (pos 0) (pos 63) x ≡ true → T (non_neg x) × (nat_abs x < 256)
small (pos n) t = (tt, omega (arith, leb-true n 63 (if-both (leb 0 n) (leb n 63) t).1))
small (negsuc n) t = let z : ◌≡◌ {A = ℕ} 0 1 = cc in absurd (omega arith)

pub half : (x : ℤ) → from◌to◌ (negsuc 32767) (pos 32767) x ≡ true → mag x < 2 ^ 15
half (pos n) t = omega (arith, leb-true n 32767 t)
half (negsuc n) t = omega (arith, leb-true n 32767 (if-both (leb n 32767) true t).0)

module _ (x : ℤ) where
  pub one_byte : from◌to◌ (pos 0) (pos 63) x ≡ true → integer_bytes x ≡ nat_abs x ∷ []
  unfolding integer_bytes
  one_byte t = simp t

  pub two_bytes : from◌to◌ (pos 0) (pos 63) x ≡ false → from◌to◌ (negsuc 32767) (pos 32767) x ≡ true → integer_bytes x ≡ 0xd3 ∷ field 2 (unsigned 15 x)
  unfolding integer_bytes
  two_bytes f t = simp (f, t)

  pub four_bytes : from◌to◌ (pos 0) (pos 63) x ≡ false → from◌to◌ (negsuc 32767) (pos 32767) x ≡ false → integer_bytes x ≡ 0xd4 ∷ field 4 (unsigned 31 x)
  unfolding integer_bytes
  four_bytes f g = simp (f, g)

pub request-zero : (what : ℕ) → request_bytes what (pos 0) ≡ 0xda ∷ what ∷ []
unfolding request_bytes
request-zero what = refl

pub request-other : (what : ℕ) (x : ℤ) → (x ≡ pos 0 → ⊥) → request_bytes what x ≡ id_bytes 0xd7 x (what ∷ [])
unfolding request_bytes
request-other what (pos n) ne = simp (ne_eqb n 0 (λ e. ne (ap pos e)))
request-other what (negsuc n) ne = refl

module _ (id : ℤ) (s out : List ℕ) where
  pub string-long : 256 < length s → write_effect (Err StringLong) out ≡ set_string id s out
  unfolding set_string
  string-long h = simp (lt-leb (length s) 256 h)

  pub string-bad : length s ≤ 256 → utf8 s ≡ false → write_effect (Err (string_not_utf8 s)) out ≡ set_string id s out
  unfolding set_string
  string-bad h e = simp (le-leb (length s) 256 h, e)

  pub string-good : length s ≤ 256 → utf8 s ≡ true → write_of (set_bytes id (string s)) out ≡ set_string id s out
  unfolding set_string
  string-good h e = simp (le-leb (length s) 256 h, e)
