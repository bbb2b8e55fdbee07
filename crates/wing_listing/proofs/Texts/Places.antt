-- A record laid from a line's value: the zeros before it, and its kind, length and payload.
use Prim.Native.Nat.{ℕ, ◌/◌, ◌≤◌}
use mathlib.Core.Bool.{Bool, true, true≢false}
use mathlib.Core.Path.{◌≡◌, sym, ap, ◌∙◌}
use mathlib.Core.List.{List}
use native.Mathlib.Omega.{arith}
use borrow.Author.Tests.{eqb-true, ne_eqb}
use lib.Dec.{eqb}
use lib.IntN.{ℤ}
use lib.ListN.{length, replicate, set, length-replicate}
use lib.Seq.{sets}
use Rattle.wing_node.specs.Refusal.{no_fault, is_refused}
use Rattle.wing_node.specs.Bool.{and}
use Rattle.wing_node.specs.Decimal.{integer_of}
use Rattle.wing_node.specs.Digits.{digits_in}
use Rattle.wing_node.specs.Field.{bytes_of, put, put_at}
use Rattle.wing_node.specs.Signed.{unsigned}
use Rattle.wing_node.specs.Value.{string}
use Rattle.wing_node.proofs.Branches.{and_left, and_right}
use Rattle.wing_node.proofs.Numerals.Numbers.{length-digits_in}
use Rattle.wing_node.proofs.Numerals.Placed.{field-sets}
use Rattle.wing_mirror.specs.Origin.{origin_number}
use Rattle.wing_mirror.specs.Call.{too_long}
use Rattle.wing_mirror.specs.Record.{kind_of, payload_of, head_from, laid_from}
use Rattle.wing_mirror.specs.declared.origin.Origin.TheVariants.{Console}
use Rattle.wing_mirror.proofs.Tables.Laying.{short}
use Rattle.wing_mirror.proofs.Records.Words.{word-again}
use Rattle.wing_listing.specs.Hex.{are_pairs, from_pairs}
use Rattle.wing_listing.specs.Reading.{is_value, value_said, value_fault}
use Rattle.wing_listing.specs.Steps.{kind_of_letter}
use Rattle.wing_listing.proofs.Texts.Numbers.{by-test}
use Rattle.wing_listing.proofs.Texts.Hexes.{length_from, from_bytes, pairs-hex}

-- the id over zeros: the head of a record from the console
pub console-head : (id : ℤ) (a b : List ℕ) (r : Bool) → a ≡ replicate 264 0 → put r b ≡ put_at (bytes_of 4 (unsigned 31 id)) 0 a → b ≡ head_from a id Console
unfolding digits_in origin_number
console-head id a b r ea eb =
    let wide : length a ≡ 264 = ap length ea ∙ length-replicate {A = ℕ} 264 0 in
    let zeros : b ≡ sets (replicate 264 0) 0 (bytes_of 4 (unsigned 31 id)) = field-sets 4 (unsigned 31 id) 0 a b r (omega arith) (omega arith) eb ∙ ap (λ (l : List ℕ). sets l 0 (bytes_of 4 (unsigned 31 id))) ea in
    zeros ∙ ap (λ (l : List ℕ). head_from l id Console) (sym ea)

-- ---- a value laid

-- a string that is not too long
no-fault : (p : List ℕ) → value_fault (string p) ≡ no_fault → length p ≤ 256
unfolding value_fault
no-fault p e = by-test (too_long (string p)) (λ t. absurd (true≢false (ap is_refused (rw t at e)))) (short p)

-- what is said of a value that is no integer: pairs of at most 256 bytes, which are its payload
pub record Said (k : ℕ) (s : List ℕ) : Type 0 where
  pub pairs : are_pairs s ≡ true
  pub few : length (from_pairs s) ≤ 256
  pub kind : kind_of_letter k ≡ kind_of (value_said k s)
  pub payload : from_pairs s ≡ payload_of (value_said k s)

module _ (k : ℕ) (s : List ℕ) where
  said-float : k ≡ 0x66 → is_value k s ≡ true → Said k s
  unfolding is_value value_said kind_of_letter kind_of payload_of
  said-float f v =
      let w : and (eqb (length s) 8) (are_pairs s) ≡ true = rw f at v in
      let l = eqb-true (length s) 8 (and_left (eqb (length s) 8) (are_pairs s) w) in
      let p = and_right (eqb (length s) 8) (are_pairs s) w in
      record {
        pairs = p;
        few = omega (arith, length_from s);
        kind = rw f;
        payload = rw f (sym (word-again (from_pairs s) (omega (arith, length_from s)) (from_bytes s (pairs-hex s p).0)));
      }

  said-string : k ≡ 0x73 → is_value k s ≡ true → value_fault (value_said k s) ≡ no_fault → Said k s
  unfolding is_value value_said kind_of_letter kind_of payload_of
  said-string f v e =
      record {
        pairs = rw f at v;
        few = no-fault (from_pairs s) (rw f at e);
        kind = rw f;
        payload = rw f;
      }

  pub said : (k ≡ 0x69 → ⊥) → is_value k s ≡ true → value_fault (value_said k s) ≡ no_fault → Said k s
  unfolding is_value
  said i v e =
      by-test (eqb k 0x66) (λ t. said-float (eqb-true k 0x66 t) v)
      (λ t. by-test (eqb k 0x73) (λ u. said-string (eqb-true k 0x73 u) v e)
      (λ u. absurd (true≢false (sym (rw (ne_eqb k 0x69 i, t, u) at v)))))

  module _ (o mid last : List ℕ) where
    -- its kind, length and payload
    pub pairs-said : Said k s → (kind : ℕ) → kind ≡ kind_of_letter k → mid ≡ sets (set o 4 kind) 6 (bytes_of 2 (length s / 2)) → last ≡ sets mid 8 (from_pairs s) →
        last ≡ laid_from o (kind_of (value_said k s)) (payload_of (value_said k s))
    pairs-said g kind e m f =
        rw (← g.payload, ← g.kind, length_from s, ← e, ← m) f

    -- and those of an integer
    pub integer-said : k ≡ 0x69 → (x : ℤ) → x ≡ integer_of s → mid ≡ sets (set o 4 0) 6 (bytes_of 2 4) → last ≡ sets mid 8 (bytes_of 4 (unsigned 31 x)) →
        last ≡ laid_from o (kind_of (value_said k s)) (payload_of (value_said k s))
    unfolding value_said kind_of payload_of
    integer-said i x e m f =
        rw (i, length-digits_in 256 4 (unsigned 31 (integer_of s)), ← e, ← m) f
