-- A line's value by its kind letter: whether it is in form, and what is wrong with it.
use Prim.Native.Nat.{ℕ, ◌/◌, ◌+◌, ◌^◌, ◌≤◌, ◌<◌}
use mathlib.Core.Bool.{Bool, true, false, true≢false, not}
use mathlib.Core.Path.{◌≡◌, sym, ap, ◌∙◌, refl}
use mathlib.Core.List.{List}
use native.Mathlib.Omega.{arith}
use borrow.Author.Tests.{ltb-true, ne_eqb, le-leb, lt-leb}
use mir.Syntax.{w32}
use mir.Val.{to_z, of_z}
use mir.Facts.{to_z-of_z}
use lib.Dec.{eqb}
use lib.Signed.{mag}
use lib.ListN.{length, take, drop}
use lib.Seq.{sets, sets-eq, take-append_seam}
use Rattle.wing_node.specs.Refusal.{string_not_utf8, no_fault, because, string_fault}
use Rattle.wing_node.specs.Bool.{if}
use Rattle.wing_node.specs.Decimal.{integer_of}
use Rattle.wing_node.specs.Utf8.{utf8}
use Rattle.wing_node.specs.Value.{string}
use Rattle.wing_node.proofs.Branches.{and_right}
use Rattle.wing_mirror.specs.Call.{too_long, not_text}
use Rattle.wing_listing.specs.Integers.{is_signed, fits32, is_integer}
use Rattle.wing_listing.specs.Hex.{are_pairs, from_pairs}
use Rattle.wing_listing.specs.Reading.{is_value, value_said, value_fault}
use Rattle.wing_listing.specs.Steps.{integer_read}
use Rattle.std.proofs.Common.{Some}
use Rattle.std.specs.Option.{is_some, IsSome}
use lib.IntN.{ℤ}
use Rattle.wing_listing.proofs.Texts.Numbers.{by-test}
use Rattle.wing_listing.proofs.Texts.Hexes.{length_from, pairs-hex}
use Rattle.wing_node.specs.declared.refusal.Refusal.TheVariants.{StringLong}

-- ---- integers

pub read-formed : (s : List ℕ) → is_some (integer_read s) ≡ is_integer s
unfolding integer_read
read-formed s = by-test (is_integer s) (λ t. rw t) (λ t. rw t)

pub read-value : (s : List ℕ) → is_integer s ≡ true → integer_read s ≡ Some (integer_of s)
unfolding integer_read
read-value s e = rw e

-- what was read is in form
pub read_is : (s : List ℕ) (x : ℤ) → Some x ≡ integer_read s → (is_integer s ≡ true) × (x ≡ integer_of s)
unfolding integer_read
read_is s x = by-test (is_integer s) (λ t. rw t (λ e. (refl, cc))) (λ t. rw t (λ e. cc))

-- an integer in form is within its type
pub integer-passed : (s : List ℕ) → is_integer s ≡ true → to_z w32 (of_z w32 (integer_of s)) ≡ integer_of s
unfolding is_integer fits32
integer-passed s e = to_z-of_z {w = w32} (record { sfits = ltb-true (mag (integer_of s)) (2 ^ 31) (and_right (is_signed s) (fits32 (integer_of s)) e) })

pub integer-some : (s : List ℕ) → is_integer s ≡ true → IsSome (integer_read s)
integer-some s e = rw (read-value s e)

-- as an argument of a call it is the same
pub read-passed : (x : ℤ) (s : List ℕ) → Some x ≡ integer_read s → to_z w32 (of_z w32 x) ≡ integer_of s
read-passed x s r = let v = read_is s x r in rw v.1 (integer-passed s v.0)

-- ---- what is wrong

-- the bytes of pairs that are laid at the front
pub pairs-laid : (d o s : List ℕ) → o ≡ sets d 0 (from_pairs s) → length (from_pairs s) ≤ length d → take (length s / 2) o ≡ from_pairs s
pairs-laid d o s e h =
    let p = from_pairs s in
    ap (λ n. take n o) (sym (length_from s)) ∙ ap (take (length p)) (e ∙ sets-eq p d 0 (omega arith)) ∙ take-append_seam p (drop (0 + length p) d)

module _ (k : ℕ) (s : List ℕ) where
  pub value-integer : k ≡ 0x69 → is_value k s ≡ true → is_integer s ≡ true
  unfolding is_value
  value-integer e v = rw e at v

  pub said-string : k ≡ 0x73 → value_said k s ≡ string (from_pairs s)
  unfolding value_said
  said-string e = rw e

  pub value-pairs : k ≡ 0x73 → is_value k s ≡ true → are_pairs s ≡ true
  unfolding is_value
  value-pairs e v = rw e at v

  module _ (e : k ≡ 0x73) (v : is_value k s ≡ true) where
    -- 02: a string over 256 bytes gets 10
    pub fault-long : 512 < length s → because StringLong ≡ value_fault (value_said k s)
    unfolding value_fault too_long
    fault-long h =
        let p = (pairs-hex s (value-pairs e v)).1 in
        rw (said-string e, lt-leb (length (from_pairs s)) 256 (omega (arith, length_from s)))

    -- and one that is not UTF-8 gets 1, with its good
    pub fault-text : length s ≤ 512 → string_fault (from_pairs s) ≡ value_fault (value_said k s)
    unfolding value_fault string_fault too_long not_text
    fault-text h = rw (said-string e, le-leb (length (from_pairs s)) 256 (omega (arith, length_from s))) (go (utf8 (from_pairs s)))
      where
        go : (t : Bool) → if t no_fault (because (string_not_utf8 (from_pairs s))) ≡ if (not t) (because (string_not_utf8 (from_pairs s))) no_fault
        go true = refl
        go false = refl

  -- a number has no fault
  pub fault-none : (k ≡ 0x73 → ⊥) → is_value k s ≡ true → no_fault ≡ value_fault (value_said k s)
  unfolding is_value value_said value_fault too_long not_text
  fault-none n v =
      by-test (eqb k 0x69)
      (λ t. rw t)
      (λ t. by-test (eqb k 0x66) (λ u. rw (t, u)) (λ u. absurd (true≢false (sym (rw (t, u, ne_eqb k 0x73 n) at v)))))
