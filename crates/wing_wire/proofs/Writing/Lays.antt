-- Bytes laid one after the other: two lays are one, and what a whole command leaves.
use Prim.Native.Nat.{ℕ, suc, ◌+◌, ◌-◌, ◌≤◌, ◌<◌}
use mathlib.Core.Path.{◌≡◌, refl, sym, ◌∙◌}
use mathlib.Core.Bool.{Bool, true, false}
use mathlib.Core.List.{List, [], ◌∷◌, ◌++◌, append-nil}
use native.Mathlib.Omega.{arith}
use native.Mathlib.Nat.{add-zero}
use native.Mathlib.Numerals.{add-one}
use lib.Dec.{eqb}
use borrow.Rule.Slice.PartMut.{put_mid}
use lib.ListN.{length, set, take, drop, get_or, length-append, length-drop, take-append-drop, drop_of_length-le}
use lib.Seq.{sets, sets-eq, set_out, drop-set-add, take-set-le, take-suc, take_all, take-append_seam}
use borrow.Author.Tests.{le-ltb, lt-ltb, ne_eqb}
use Rattle.wing_node.specs.Bool.{if}
use Rattle.wing_node.proofs.Numerals.Placed.{sets-append}
use Rattle.wing_wire.specs.Write.{escaped, Laid, write_effect, write_of}
use Rattle.wing_node.specs.declared.refusal.Refusal.TheVariants.{OutputShort}
use Rattle.std.specs.Prelude.{Ok, Err}

-- one byte, stored where there is room
pub stored : (d : List ℕ) (at b : ℕ) → Laid (b ∷ []) at d (set d at b) (at + 1)
stored d at b = record { bytes = refl; next = refl }

pub past : (d : List ℕ) (at b : ℕ) → length d ≤ at → Laid (b ∷ []) at d d (at + 1)
past d at b h = record { bytes = sym (set_out d at b h); next = refl }

-- nothing laid
pub nothing : (d : List ℕ) (at : ℕ) → Laid [] at d d at
nothing d at = record { bytes = refl; next = omega arith }

-- the law of composition: two lays, one after the other, are one
pub then : {s t d e f : List ℕ} {at n m : ℕ} → Laid s at d e n → Laid t n e f m → Laid (s ++ t) at d f m
then {s} {t} {d} {e} {f} {at} {n} {m} a b = record {
  bytes = b.bytes ∙ rw (a.bytes, a.next) (sets-append s t d at);
  next = omega (arith, a.next, b.next, length-append s t);
}

pub escaped-append : (s t : List ℕ) → escaped (s ++ t) ≡ escaped s ++ escaped t
unfolding escaped
escaped-append [] t = refl
escaped-append (b ∷ s) t = rw (escaped-append s t) (go (eqb b 0xdf))
  where
    go : (q : Bool) → if q (0xdf ∷ 0xde ∷ (escaped s ++ escaped t)) (b ∷ (escaped s ++ escaped t)) ≡ if q (0xdf ∷ 0xde ∷ escaped s) (b ∷ escaped s) ++ escaped t
    go true = refl
    go false = refl

-- one byte more is escaped
pub escaped-df : (s : List ℕ) (i : ℕ) → i < length s → get_or s i 0 ≡ 0xdf → escaped (take (i + 1) s) ≡ escaped (take i s) ++ (get_or s i 0 ∷ 0xde ∷ [])
unfolding escaped
escaped-df s i h e = rw (add-one i, take-suc s i 0 h, escaped-append (take i s) (get_or s i 0 ∷ []), e)

pub escaped-other : (s : List ℕ) (i : ℕ) → i < length s → (get_or s i 0 ≡ 0xdf → ⊥) → escaped (take (i + 1) s) ≡ escaped (take i s) ++ (get_or s i 0 ∷ [])
unfolding escaped
escaped-other s i h n = rw (add-one i, take-suc s i 0 h, escaped-append (take i s) (get_or s i 0 ∷ [])) (simp (ne_eqb (get_or s i 0) 0xdf n))

-- a command where there is room for it
pub whole : (s d : List ℕ) {n : ℕ} → n ≡ length s → length s ≤ length d → write_effect (Ok n) (s ++ drop (length s) d) ≡ write_of s d
unfolding write_of
whole s d m h = rw (m, le-ltb (length d) (length s) h)

-- and where there is none
pub short : (s d : List ℕ) → length d < length s → write_effect (Err OutputShort) d ≡ write_of s d
unfolding write_of
short s d h = rw (lt-ltb (length d) (length s) h)

module _ {s d e : List ℕ} {n : ℕ} (a : Laid s 0 d e n) (h : length s ≤ length d) where
  length-is : n ≡ length s
  length-is = omega (arith, a.next)

  in-front : e ≡ s ++ drop (length s) d
  in-front = let z : 0 + length s ≡ length s = omega arith in a.bytes ∙ sets-eq s d 0 (omega arith) ∙ rw z

  -- a command laid straight into the output
  pub written : write_effect (Ok n) e ≡ write_of s d
  written = rw in-front (whole s d length-is h)

  -- and one laid into a scratch buffer: its first n bytes are handed over
  pub handed-over : (out : List ℕ) → write_of (take n e) out ≡ write_of s out
  handed-over out = let f : take n e ≡ s = rw (in-front, length-is) (take-append_seam s (drop (length s) d)) in rw f

-- bytes laid after others go on where these end
pub goes_on : {s d e : List ℕ} {at n : ℕ} → Laid s at d e n → (t : List ℕ) → sets e n t ≡ sets d at (s ++ t)
goes_on {s} {d} {e} {at} {n} a t = rw (a.bytes, a.next) (sets-append s t d at)

sets-part : (s d : List ℕ) (a i : ℕ) → take a d ++ sets (drop a d) i s ≡ sets d (a + i) s
sets-part [] d a i = take-append-drop a d
sets-part (b ∷ s) d a i =
    let z : suc (a + i) ≡ a + suc i = omega arith in
    rw (← drop-set-add a d i b, ← take-set-le a d (a + i) b (omega arith), z) (sets-part s (set d (a + i) b) a (suc i))

-- bytes laid into the part from a place on are laid into the whole from there
pub in-part : {s d e : List ℕ} {n : ℕ} (a : ℕ) → Laid s 0 (take (length d - a) (drop a d)) e n → Laid s a d (put_mid a (length d - a) d e) (a + n)
in-part {s} {d} {e} {n} a l = record {
  bytes =
      let h : length (drop a d) ≤ length d - a = omega (arith, length-drop a d) in
      rw (l.bytes, take_all (length d - a) (drop a d) h, drop_of_length-le (drop a d) {i = length d - a} h, append-nil (sets (drop a d) 0 s))
      (sets-part s d a 0 ∙ rw (add-zero a));
  next = omega (arith, l.next);
}
