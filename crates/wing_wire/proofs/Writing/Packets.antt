-- Meter packets: their readings one by one, and the cases of an answer.
use Prim.Native.Nat.{ℕ, zero, suc, ◌+◌, ◌*◌, ◌-◌, ◌/◌, ◌≤◌, ◌<◌}
use mathlib.Core.Path.{◌≡◌, refl, sym, ap, ◌∙◌}
use mathlib.Core.List.{List, [], ◌∷◌, ◌++◌, append_assoc}
use native.Mathlib.Omega.{arith}
use native.Mathlib.Numerals.{add-one}
use lib.IntN.{ℤ, pos}
use lib.ListN.{length, take, drop, get_or, set, length-drop}
use lib.Seq.{drop-cons, drop-drop, set_at, take-suc, take_all, length-take-le}
use borrow.Author.Tests.{le-ltb, lt-ltb}
use Rattle.wing_node.specs.Field.{big, field_at}
use Rattle.wing_node.specs.Signed.{signed}
use Rattle.wing_node.proofs.Numerals.Placed.{field-whole}
use Rattle.wing_wire.specs.Meter.{readings, packet_effect, packet_of}
use Rattle.std.specs.Prelude.{Err, Ok}
use Rattle.wing_node.specs.declared.refusal.Refusal.TheVariants.{OutputShort, PacketSize}

pub readings-length : (s : List ℕ) → length (readings s) ≡ length s / 2
unfolding readings
readings-length [] = omega arith
readings-length (a ∷ []) = omega arith
readings-length (a ∷ b ∷ s) = omega (arith, readings-length s)

reading-of : (s : List ℕ) (i : ℕ) → 2 * i + 2 ≤ length s → get_or (readings s) i (pos 0) ≡ signed 15 (big (take 2 (drop (2 * i) s)))
unfolding readings
reading-of [] i h = absurd (omega arith)
reading-of (a ∷ []) i h = absurd (omega arith)
reading-of (a ∷ b ∷ s) zero h = refl
reading-of (a ∷ b ∷ s) (suc i) h =
    let e : 2 * suc i ≡ suc (suc (2 * i)) = omega arith in
    rw e (reading-of s i (omega arith))

-- a reading of a packet is the field at its place
pub reading-at : (p : List ℕ) (i : ℕ) → 4 + 2 * i + 2 ≤ length p → signed 15 (field_at 2 p (4 + 2 * i)) ≡ get_or (readings (drop 4 p)) i (pos 0)
reading-at p i h =
    ap (signed 15) (field-whole 2 p (4 + 2 * i) (omega arith) ∙ ap (λ (l : List ℕ). big (take 2 l)) (sym (drop-drop (2 * i) 4 p))) ∙
    sym (reading-of (drop 4 p) i (omega (arith, length-drop 4 p)))

-- one reading more
pub one-reading : (rs d : List ℤ) (i : ℕ) → i < length rs → i < length d → set (take i rs ++ drop i d) i (get_or rs i (pos 0)) ≡ take (i + 1) rs ++ drop (i + 1) d
one-reading rs d i h g =
    rw (add-one i, drop-cons d i (pos 0) g, set_at (take i rs) (get_or d i (pos 0)) (drop (suc i) d) (get_or rs i (pos 0)) i (length-take-le i rs (omega arith)), take-suc rs i (pos 0) h)
    (simp append_assoc)

module _ (p : List ℕ) (out : List ℤ) where
  rest : length (readings (drop 4 p)) ≡ (length p - 4) / 2
  rest = readings-length (drop 4 p) ∙ ap (λ (n : ℕ). n / 2) (length-drop 4 p)

  pub too_short : length p < 4 → packet_effect (Err PacketSize) out ≡ packet_of p out
  unfolding packet_of
  too_short h = simp (lt-ltb (length p) 4 h)

  pub too_long : 4 ≤ length p → 8192 < length p → packet_effect (Err PacketSize) out ≡ packet_of p out
  unfolding packet_of
  too_long h g = simp (le-ltb (length p) 4 h, lt-ltb 8192 (length p) g)

  pub no_room : 4 ≤ length p → length p ≤ 8192 → length out < (length p - 4) / 2 → packet_effect (Err OutputShort) out ≡ packet_of p out
  unfolding packet_of
  no_room h g k = simp (le-ltb (length p) 4 h, le-ltb 8192 (length p) g, rest, lt-ltb (length out) ((length p - 4) / 2) k)

  pub packet-whole : (id : ℕ) → id ≡ field_at 2 p 0 → 4 ≤ length p → length p ≤ 8192 → (length p - 4) / 2 ≤ length out →
      packet_effect (Ok (record { id = id; count = (length p - 4) / 2 })) (take ((length p - 4) / 2) (readings (drop 4 p)) ++ drop ((length p - 4) / 2) out) ≡ packet_of p out
  unfolding packet_of
  packet-whole id e h g k =
      simp (
        le-ltb (length p) 4 h,
        le-ltb 8192 (length p) g,
        rest,
        le-ltb (length out) ((length p - 4) / 2) k,
        e,
        field-whole 2 p 0 (omega arith),
        take_all ((length p - 4) / 2) (readings (drop 4 p)) (omega (arith, rest)),
      )
