-- What a record's line says, part by part: the text of its value, its letter, and how long they are.
use Prim.Native.Nat.{ℕ, suc, ◌+◌, ◌-◌, ◌^◌, ◌≤◌, ◌<◌}
use mathlib.Core.Bool.{Bool, true, false}
use mathlib.Core.Path.{◌≡◌, refl, sym, ◌∙◌, ap, subst}
use mathlib.Core.List.{List, [], ◌∷◌, ◌++◌, append_assoc}
use native.Mathlib.Omega.{arith}
use borrow.Author.Tests.{eqb-true, eqb-false, le-leb, ltb-true, ltb-false}
use mir.Syntax.{w32}
use mir.Val.{to_z, of_z, SFits}
use mir.Facts.{to_z-of_z}
use lib.Dec.{ltb, leb, eqb}
use lib.IntN.{ℤ, pos, negsuc}
use lib.ListN.{length, take, drop, get_or, set, length-append, length-drop}
use lib.Seq.{sets, length-take-le}
use Rattle.wing_node.specs.Bool.{if}
use Rattle.wing_node.specs.Decimal.{decimal}
use Rattle.wing_node.specs.Field.{big, bytes_of, field_at, put_at}
use Rattle.wing_node.specs.Signed.{signed, InBits}
use Rattle.wing_node.specs.Value.{NodeValue, integer, float, string}
use Rattle.wing_node.proofs.Branches.{branch, if-both}
use Rattle.wing_node.proofs.Numerals.Numbers.{Digits, digits-take, digits-drop, length-digits_in}
use Rattle.wing_node.proofs.Numerals.Placed.{field-whole, put_whole}
use Rattle.wing_node.proofs.Numerals.Spelled.{length_some}
use Rattle.wing_node.proofs.Numerals.Answers.{decimal-few}
use Rattle.wing_wire.specs.State.{zeros}
use Rattle.wing_wire.specs.Write.{Laid}
use Rattle.wing_wire.proofs.Laws.{writer-laws}
use Rattle.wing_mirror.specs.Record.{id_in, kind_in, length_in, payload_in, value_in, entry_in, well_kept, well_formed}
use Rattle.wing_mirror.proofs.Records.Said.{id-said, integer-value, float_value, string-value}
use Rattle.wing_mirror.proofs.Records.Words.{word-again}
use Rattle.wing_mirror.proofs.Calls.Sends.{text}
use Rattle.wing_listing.specs.Parts.{comma, newline, ended}
use Rattle.wing_listing.specs.Hex.{pairs_of}
use Rattle.wing_listing.specs.Listing.{letter_i, letter_f, letter_s, letter_of, value_text, line_of}
use Rattle.wing_listing.specs.Steps.{letter_in}
use Rattle.wing_listing.proofs.Printing.Pairs.{length_pairs}

-- ---- decimals

decimal-some : (x : ℤ) → 0 < length (decimal x)
unfolding decimal
decimal-some (pos n) = length_some n
decimal-some (negsuc n) = omega arith

-- 32 bits are read as a number of 32 bits, which is the same as an argument of a call
pub signed-fits : (n : ℕ) → SFits w32 (signed 31 n)
signed-fits n =
    record {
      sfits = branch (InBits 31) (ltb n (2 ^ 31)) (pos n) (negsuc (2 ^ 32 - suc n)) (λ e. ltb-true n (2 ^ 31) e) (λ e. let h : 2 ^ 31 ≤ n = ltb-false n (2 ^ 31) e in omega arith);
    }

signed-few : (n : ℕ) → length (decimal (signed 31 n)) ≤ 11
signed-few n = decimal-few (signed 31 n) (signed-fits n)

pub signed-passed : (x : ℤ) (n : ℕ) → x ≡ signed 31 n → to_z w32 (of_z w32 x) ≡ x
signed-passed x n e = to_z-of_z (subst (SFits w32) (sym e) (signed-fits n))

-- what `put_decimal` says of its answer n and what it leaves
abbrev Answered : ℤ → ℕ → ℕ → List ℕ → List ℕ → Type 0
Answered x n at d e = (n ≡ length (decimal (to_z w32 (of_z w32 x)))) × (e ≡ (put_at (decimal (to_z w32 (of_z w32 x))) at d).bytes)

-- of an x that was read: it is laid where there is room
module _ (x : ℤ) (m n at : ℕ) (d e : List ℕ) (q : x ≡ signed 31 m) (p : Answered x n at d e) where
  decimal-long : n ≡ length (decimal x)
  decimal-long = rw (signed-passed x m q) at p.0

  decimal-laid : at + length (decimal x) ≤ length d → Laid (decimal x) at d e (at + n)
  decimal-laid h =
      record {
        bytes = rw (signed-passed x m q) at p.1 ∙ ap (λ o. o.bytes) (put_whole (decimal x) at d (decimal-some x) (omega arith));
        next = ap (◌+◌ at) decimal-long;
      }

-- ---- a record

letter-said : (a b : Bool) (x : ℤ) (n : ℕ) (s : List ℕ) → if a letter_i (if b letter_f letter_s) ≡ letter_of (if a (integer x) (if b (float n) (string s)))
unfolding letter_of
letter-said true b x n s = refl
letter-said false true x n s = refl
letter-said false false x n s = refl

module _ (r : List ℕ) where
  -- the letter of the kind is that of the value
  pub letter-value : letter_in (get_or r 4 0) ≡ letter_of (value_in r)
  unfolding letter_in value_in
  letter-value = letter-said (eqb (get_or r 4 0) 0) (eqb (get_or r 4 0) 1) _ _ _

  length-line : length (ended (line_of (entry_in r))) ≡ length (decimal (id_in r)) + 3 + length (value_text (value_in r)) + 1
  unfolding line_of entry_in
  length-line = simp length-append (omega arith)

-- a number's length is 4
kept-number : (k n : ℕ) (p : List ℕ) → well_kept k n p ≡ true → k ≤ 1 → n ≡ 4
unfolding well_kept
kept-number k n p h a = eqb-true n 4 (if-both (eqb n 4) (zeros (drop 4 p)) (rw (le-leb k 1 a) at h)).0

module _ (r : List ℕ) (wide : length r ≡ 264) where
  module _ (x : ℤ) (n at : ℕ) (d e : List ℕ) where
    -- how long the line is, by the id that was read
    pub line-long : x ≡ signed 31 (field_at 4 r 0) → Answered x n at d e →
        length (ended (line_of (entry_in r))) ≡ n + 3 + length (value_text (value_in r)) + 1
    line-long q p = omega (arith, length-line r, decimal-long x (field_at 4 r 0) n at d e q p ∙ ap (λ y. length (decimal y)) (id-said r wide x q))

    -- an integer's decimal
    pub integer-laid : get_or r 4 0 ≡ 0 → x ≡ signed 31 (field_at 4 r 8) → Answered x n at d e →
        at + length (value_text (value_in r)) ≤ length d → Laid (value_text (value_in r)) at d e (at + n)
    unfolding value_text
    integer-laid k q p h =
        let t : decimal x ≡ value_text (value_in r) = ap value_text (integer-value r wide x k q) in
        rw (← t) (decimal-laid x (field_at 4 r 8) n at d e q p (omega (arith, ap length t)))

  length-again : field_at 2 r 6 ≡ length_in r
  length-again = field-whole 2 r 6 (omega arith)

  module _ (form : well_formed r ≡ true) where
    number-long : get_or r 4 0 ≤ 1 → length_in r ≡ 4
    number-long h =
        kept-number (kind_in r) (length_in r) (payload_in r) (if-both (leb (get_or r 5 0) 1) (well_kept (kind_in r) (length_in r) (payload_in r)) (unfold well_formed in form)).1 h

    -- a float's four bytes and a string's stand alike
    pub pairs-text : Digits 256 r → (n : ℕ) → (get_or r 4 0 ≡ 0 → ⊥) → n ≡ field_at 2 r 6 → (n ≤ 256) × (value_text (value_in r) ≡ pairs_of (take n (drop 8 r)))
    unfolding value_text
    pairs-text b n j e = go (eqb (get_or r 4 0) 1) refl
      where
        go : (t : Bool) → eqb (get_or r 4 0) 1 ≡ t → (n ≤ 256) × (value_text (value_in r) ≡ pairs_of (take n (drop 8 r)))
        go true q =
            let k : get_or r 4 0 ≡ 1 = eqb-true (get_or r 4 0) 1 q in
            let four : n ≡ 4 = e ∙ length-again ∙ number-long (omega arith) in
            let s : List ℕ = take 4 (drop 8 r) in
            let again : bytes_of 4 (big s) ≡ s = word-again s (length-take-le 4 (drop 8 r) (omega (arith, length-drop 8 r))) (digits-take 256 4 (drop 8 r) (digits-drop 256 8 r b)) in
            (omega arith, sym (ap value_text (float_value r wide (field_at 4 r 8) j k refl)) ∙ ap (λ (m : ℕ). pairs_of (bytes_of 4 m)) (field-whole 4 r 8 (omega arith)) ∙ ap pairs_of again ∙ ap (λ (m : ℕ). pairs_of (take m (drop 8 r))) (sym four))
        go false q =
            let k : get_or r 4 0 ≡ 1 → ⊥ = eqb-false (get_or r 4 0) 1 q in
            (omega (arith, length-again, (text r wide form j k).0), sym (ap value_text (string-value r wide n j k e)))

    -- no value's text is longer than 512 bytes
    value-le : length (value_text (value_in r)) ≤ 512
    unfolding value_text value_in
    value-le =
        let P : NodeValue → Type 0 = λ v. length (value_text v) ≤ 512 in
        let n : ℕ = big (take 4 (payload_in r)) in
        let s : List ℕ = take (length_in r) (payload_in r) in
        branch P (eqb (get_or r 4 0) 0) (integer (signed 31 n)) _ (λ _. omega (arith, signed-few n))
        (λ j. branch P (eqb (get_or r 4 0) 1) (float n) (string s) (λ _. omega (arith, length_pairs (bytes_of 4 n), length-digits_in 256 4 n))
        (λ k.
        let t = text r wide form (eqb-false (get_or r 4 0) 0 j) (eqb-false (get_or r 4 0) 1 k) in
        omega (arith, t.0, length_pairs s, length-take-le (length_in r) (payload_in r) (omega (arith, length-drop 8 r)))))

    -- no line is longer than 527 bytes
    pub line-le : length (ended (line_of (entry_in r))) ≤ 527
    line-le = omega (arith, length-line r, value-le, signed-few (big (take 4 r)))

-- a line laid part by part: the id's decimal, a comma, the letter, a comma, the value, the line's end
line-laid : (id value : List ℕ) (l at to end : ℕ) (d e f : List ℕ) → Laid id at d e to → Laid value (to + 3) (set (set (set e to comma) (to + 1) l) (to + 2) comma) f end →
    Laid ((id ++ (comma ∷ l ∷ comma ∷ value)) ++ (newline ∷ [])) at d (set f end newline) (end + 1)
line-laid id value l at to end d e f a b =
    let one : to + 1 ≡ suc to = omega arith in
    let two : to + 2 ≡ suc (suc to) = omega arith in
    let three : to + 3 ≡ suc (suc (suc to)) = omega arith in
    let more : sets (set (set (set e to comma) (to + 1) l) (to + 2) comma) (to + 3) (value ++ (newline ∷ [])) ≡ sets e to (comma ∷ l ∷ comma ∷ (value ++ (newline ∷ []))) = rw (one, two, three) in
    record {
      bytes = writer-laws.after b (newline ∷ []) ∙ more ∙ writer-laws.after a (comma ∷ l ∷ comma ∷ (value ++ (newline ∷ []))) ∙ ap (sets d at) (sym (append_assoc id (comma ∷ l ∷ comma ∷ value) (newline ∷ [])));
      next = omega (arith, a.next, b.next, length-append (id ++ (comma ∷ l ∷ comma ∷ value)) (newline ∷ []), length-append id (comma ∷ l ∷ comma ∷ value));
    }

-- that of a record, by the id and the letter that were read
module _ (r : List ℕ) (wide : length r ≡ 264) (x : ℤ) (l at n end : ℕ) (d e f : List ℕ) (q : x ≡ signed 31 (field_at 4 r 0)) (k : l ≡ letter_in (get_or r 4 0)) where
  pub entry-laid : Answered x n at d e → at + length (ended (line_of (entry_in r))) ≤ length d →
      Laid (value_text (value_in r)) (at + n + 3) (set (set (set e (at + n) comma) (at + n + 1) l) (at + n + 2) comma) f end →
      Laid (ended (line_of (entry_in r))) at d (set f end newline) (end + 1)
  unfolding line_of entry_in
  entry-laid p h b =
      let a : Laid (decimal x) at d e (at + n) = decimal-laid x (field_at 4 r 0) n at d e q p (omega (arith, line-long r wide x n at d e q p, decimal-long x (field_at 4 r 0) n at d e q p)) in
      subst (λ (y : ℤ). Laid ((decimal y ++ (comma ∷ letter_of (value_in r) ∷ comma ∷ value_text (value_in r))) ++ (newline ∷ [])) at d (set f end newline) (end + 1)) (id-said r wide x q)
      (rw (← letter-value r, ← k) (line-laid (decimal x) (value_text (value_in r)) l at (at + n) end d e f a b))
