-- A value's text and a line, both ways: what is printed is in form and says the entry, and what is in form is what its entry prints.
use Prim.Native.Nat.{ℕ, zero, suc, ◌+◌, ◌/◌, ◌%◌, ◌^◌, ◌<◌}
use mathlib.Core.Bool.{true, not, true≢false}
use mathlib.Core.Path.{◌≡◌, refl, sym, ap, ap₂, ◌∙◌, subst}
use mathlib.Core.List.{List, [], ◌∷◌, ◌++◌}
use native.Mathlib.Omega.{arith}
use borrow.Author.Tests.{ltb-true, eqb-true, eq-eqb, ne_eqb}
use lib.Dec.{leb, eqb}
use lib.IntN.{ℤ}
use lib.Signed.{mag}
use lib.ListN.{length, get_or, drop}
use Rattle.wing_node.specs.Refusal.{no_fault, is_refused}
use Rattle.wing_node.specs.Bool.{and}
use Rattle.wing_node.specs.Decimal.{decimal, integer_of}
use Rattle.wing_node.specs.Digits.{digits_in}
use Rattle.wing_node.specs.Field.{big, bytes_of}
use Rattle.wing_node.specs.Signed.{InBits}
use Rattle.wing_node.specs.Utf8.{utf8}
use Rattle.wing_node.specs.Value.{NodeValue, integer, float, string}
use Rattle.wing_node.proofs.Branches.{if-both, and_left, and_right}
use Rattle.wing_node.proofs.Numerals.Numbers.{Digits, length-digits_in, number-below}
use Rattle.wing_node.proofs.Numerals.Spelled.{read_back}
use Rattle.wing_mirror.specs.Entry.{Entry, entry, from_console, storable, Typed}
use Rattle.wing_mirror.specs.Layout.{ValidEntry}
use Rattle.wing_mirror.specs.Table.{every}
use Rattle.wing_mirror.specs.Record.{full}
use Rattle.wing_mirror.specs.Call.{too_long, not_text}
use Rattle.wing_mirror.specs.declared.origin.Origin.TheVariants.{Console}
use Rattle.wing_mirror.proofs.Records.Words.{word_back, word-again}
use Rattle.wing_listing.specs.Parts.{comma, newline, parted, part}
use Rattle.wing_listing.specs.Integers.{first, is_signed, fits32, is_integer}
use Rattle.wing_listing.specs.Hex.{pairs_of, from_pairs, are_pairs}
use Rattle.wing_listing.specs.Listing.{letter_i, letter_f, letter_s, letter_of, value_text, line_of}
use Rattle.wing_listing.specs.Reading.{is_value, value_said, is_line, id_said, entry_said, value_fault}
use Rattle.wing_listing.specs.Steps.{value_at}
use Rattle.wing_listing.proofs.Printing.Pairs.{length_pairs}
use Rattle.wing_listing.proofs.Texts.Numbers.{by-test, every-both, integer-spelled, decimal-formed}
use Rattle.wing_listing.proofs.Texts.Hexes.{length_from, from_bytes, pairs-back, pairs-hex, pairs-formed}
use Rattle.wing_listing.proofs.Texts.Parts.{plain, parted-plain, parted-ended}
use Rattle.wing_listing.proofs.Texts.Lines.{integer-plain, value-plain, tail-parts, formed-id, formed-fields, formed-said, formed-rest}

-- a string's bytes are bytes
abbrev pub DigitBytes : NodeValue → Type 0
DigitBytes (integer x) = Unit {0}
DigitBytes (float bits) = Unit {0}
DigitBytes (string s) = Digits 256 s

-- digits of the base
digits-both : (s t : List ℕ) → Digits 256 s → Digits 256 t → Digits 256 (s ++ t)
digits-both [] t a b i = b i
digits-both (x ∷ s) t a b zero = a zero
digits-both (x ∷ s) t a b (suc i) = digits-both s t (λ j. a (suc j)) b i

digit-alone : (n : ℕ) → n < 256 → Digits 256 (n ∷ [])
digit-alone n h zero = h
digit-alone n h (suc i) = omega arith

bytes-digits : (w n : ℕ) → Digits 256 (bytes_of w n)
unfolding digits_in
bytes-digits zero n i = omega arith
bytes-digits (suc w) n i = digits-both (bytes_of w (n / 256)) (n % 256 ∷ []) (bytes-digits w (n / 256)) (digit-alone (n % 256) (omega arith)) i

-- ---- what is printed

pub text-formed : (v : NodeValue) → Typed v → DigitBytes v → is_value (letter_of v) (value_text v) ≡ true
unfolding is_value letter_of value_text
text-formed (integer x) t b = decimal-formed x t
text-formed (float bits) t b =
    rw ((pairs-formed (bytes_of 4 bits) (bytes-digits 4 bits)).0, eq-eqb (length (pairs_of (bytes_of 4 bits))) 8 (omega (arith, length_pairs (bytes_of 4 bits), length-digits_in 256 4 bits)))
text-formed (string s) t b = (pairs-formed s b).0

pub text-said : (v : NodeValue) → Typed v → DigitBytes v → value_said (letter_of v) (value_text v) ≡ v
unfolding value_said letter_of value_text
text-said (integer x) t b = ap integer (read_back x)
text-said (float bits) t b = ap float (ap big (pairs-formed (bytes_of 4 bits) (bytes-digits 4 bits)).1 ∙ word_back bits t)
text-said (string s) t b = ap string (pairs-formed s b).1

pub text-faultless : (v : NodeValue) → storable v ≡ true → value_fault v ≡ no_fault
unfolding value_fault too_long not_text storable
text-faultless (integer x) e = refl
text-faultless (float bits) e = refl
text-faultless (string s) e = let d = if-both (leb (length s) 256) (utf8 s) e in rw (d.0, d.1)

letter-low : (b : ℕ) → b < 0x2d → (v : NodeValue) → letter_of v ≡ b → ⊥
unfolding letter_of
letter-low b h (integer x) e = omega arith
letter-low b h (float bits) e = omega arith
letter-low b h (string s) e = omega arith

module _ (e : Entry) (node : InBits 31 e.id) (typed : Typed e.value) (bytes : DigitBytes e.value) where
  abbrev text : List ℕ
  text = value_text e.value

  formed : is_value (letter_of e.value) text ≡ true
  formed = text-formed e.value typed bytes

  line-parts : parted comma (line_of e) ≡ decimal e.id ∷ (letter_of e.value ∷ []) ∷ text ∷ []
  unfolding line_of
  line-parts =
      parted-ended comma (decimal e.id) (letter_of e.value ∷ comma ∷ text) (integer-plain comma (omega arith) (decimal e.id) (decimal-formed e.id node)) ∙
      ap (λ (ps : List (List ℕ)). decimal e.id ∷ ps)
      (tail-parts (letter_of e.value) text (letter-low comma (omega arith) e.value) ∙
      ap (λ (ps : List (List ℕ)). (letter_of e.value ∷ []) ∷ ps) (parted-plain comma text (value-plain comma (omega arith) (letter_of e.value) text formed)))

  pub line-formed : is_line (line_of e) ≡ true
  unfolding is_line
  line-formed =
      ap (λ (ps : List (List ℕ)). and (eqb (length ps) 3) (and (is_integer (get_or ps 0 [])) (and (eqb (length (get_or ps 1 [])) 1) (is_value (first (get_or ps 1 [])) (get_or ps 2 []))))) line-parts ∙
      ap (λ t. and t (is_value (letter_of e.value) text)) (decimal-formed e.id node) ∙ formed

  pub line-id : id_said (line_of e) ≡ e.id
  line-id = ap (λ (ps : List (List ℕ)). integer_of (get_or ps 0 [])) line-parts ∙ read_back e.id

  pub line-says : entry_said (line_of e) ≡ from_console e
  unfolding entry_said
  line-says =
      ap (λ (ps : List (List ℕ)). entry (integer_of (get_or ps 0 [])) (value_said (first (get_or ps 1 [])) (get_or ps 2 [])) Console) line-parts ∙
      ap₂ (λ (i : ℤ) (v : NodeValue). entry i v Console) (read_back e.id) (text-said e.value typed bytes)

  pub line_plain : plain newline (line_of e) ≡ true
  unfolding line_of every
  line_plain =
      every-both (λ a. not (eqb a newline)) (decimal e.id) (comma ∷ letter_of e.value ∷ comma ∷ text) (integer-plain newline (omega arith) (decimal e.id) (decimal-formed e.id node))
      (rw (ne_eqb (letter_of e.value) newline (letter-low newline (omega arith) e.value)) (value-plain newline (omega arith) (letter_of e.value) text formed))

-- ---- what is in form

-- a float's four bytes
float-bytes : (s : List ℕ) → length s ≡ 8 → are_pairs s ≡ true → (length (from_pairs s) ≡ 4) × Digits 256 (from_pairs s)
float-bytes s l e = (omega (arith, length_from s), from_bytes s (pairs-hex s e).0)

-- a value in form, by its kind
by_kind : (P : ℕ → Type 0) (k : ℕ) (s : List ℕ) → is_value k s ≡ true → (is_integer s ≡ true → P letter_i) → (length s ≡ 8 → are_pairs s ≡ true → P letter_f) → (are_pairs s ≡ true → P letter_s) → P k
unfolding is_value
by_kind P k s e i f t =
    by-test (eqb k letter_i)
    (λ a. subst P (sym (eqb-true k letter_i a)) (i (rw a at e)))
    (λ a. by-test (eqb k letter_f)
    (λ b.
    let d : and (eqb (length s) 8) (are_pairs s) ≡ true = rw (a, b) at e in
    subst P (sym (eqb-true k letter_f b)) (f (eqb-true (length s) 8 (and_left (eqb (length s) 8) (are_pairs s) d)) (and_right (eqb (length s) 8) (are_pairs s) d)))
    (λ b.
    let d = if-both (eqb k letter_s) (are_pairs s) (rw (a, b) at e) in
    subst P (sym (eqb-true k letter_s d.0)) (t d.1)))

pub said-text : (k : ℕ) (s : List ℕ) → is_value k s ≡ true → (letter_of (value_said k s) ≡ k) × (value_text (value_said k s) ≡ s)
unfolding letter_of value_text value_said
said-text k s e =
    by_kind (λ j. (letter_of (value_said j s) ≡ j) × (value_text (value_said j s) ≡ s)) k s e
    (λ i. (refl, integer-spelled s i))
    (λ l p. let b = float-bytes s l p in (refl, ap pairs_of (word-again (from_pairs s) b.0 b.1) ∙ pairs-back s p))
    (λ p. (refl, pairs-back s p))

fits_in : (x : ℤ) → fits32 x ≡ true → InBits 31 x
unfolding fits32
fits_in x e = ltb-true (mag x) (2 ^ 31) e

integer-in : (s : List ℕ) → is_integer s ≡ true → InBits 31 (integer_of s)
unfolding is_integer
integer-in s e = fits_in (integer_of s) (and_right (is_signed s) (fits32 (integer_of s)) e)

pub said_typed : (k : ℕ) (s : List ℕ) → is_value k s ≡ true → Typed (value_said k s)
unfolding value_said
said_typed k s e =
    by_kind (λ j. Typed (value_said j s)) k s e
    (λ i. integer-in s i)
    (λ l p. let b = float-bytes s l p in subst (λ w. big (from_pairs s) < 256 ^ w) b.0 (number-below 256 (from_pairs s) b.1))
    (λ p. tt)

said-bytes : (k : ℕ) (s : List ℕ) → is_value k s ≡ true → DigitBytes (value_said k s)
unfolding value_said
said-bytes k s e = by_kind (λ j. DigitBytes (value_said j s)) k s e (λ i. tt) (λ l p. tt) (λ p. from_bytes s (pairs-hex s p).0)

pub said-storable : (v : NodeValue) → value_fault v ≡ no_fault → storable v ≡ true
unfolding value_fault too_long not_text storable
said-storable (integer x) e = refl
said-storable (float bits) e = refl
said-storable (string s) e =
    by-test (leb (length s) 256)
    (λ t. rw t (by-test (utf8 s) (λ u. u) (λ u. absurd (true≢false (ap is_refused (rw (t, u) at e))))))
    (λ t. absurd (true≢false (ap is_refused (rw t at e))))

module _ (s : List ℕ) (e : is_line s ≡ true) where
  -- the line of the entry that it says
  pub line-again : line_of (entry_said s) ≡ s
  unfolding line_of entry_said
  line-again =
      let k = get_or s (length (part comma 0 s) + 1) 0 in
      let v = drop (value_at s) s in
      let t = said-text (first (part comma 1 s)) (part comma 2 s) (formed-said s e) in
      ap (λ (d : List ℕ). d ++ (comma ∷ letter_of (value_said (first (part comma 1 s)) (part comma 2 s)) ∷ comma ∷ value_text (value_said (first (part comma 1 s)) (part comma 2 s)))) (integer-spelled (part comma 0 s) (formed-id s e)) ∙
      ap₂ (λ (a : ℕ) (r : List ℕ). part comma 0 s ++ (comma ∷ a ∷ comma ∷ r)) (t.0 ∙ ap first (formed-fields s e).0) (t.1 ∙ (formed-fields s e).1) ∙
      sym (formed-rest s e)

  pub line-node : InBits 31 (entry_said s).id
  unfolding entry_said
  line-node = integer-in (part comma 0 s) (formed-id s e)

  pub line-typed : Typed (entry_said s).value
  unfolding entry_said
  line-typed = said_typed (first (part comma 1 s)) (part comma 2 s) (formed-said s e)

  pub line-bytes : DigitBytes (entry_said s).value
  unfolding entry_said
  line-bytes = said-bytes (first (part comma 1 s)) (part comma 2 s) (formed-said s e)

  pub line-valid : value_fault (entry_said s).value ≡ no_fault → ValidEntry full (entry_said s)
  line-valid f = record { node = line-node; typed = line-typed; text = said-storable (entry_said s).value f; is_kept = refl }
