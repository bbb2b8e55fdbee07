-- An entry laid as a record reads as the entry, and a record of 01's form is the record of what it says.
use Prim.Native.Nat.{ℕ, zero, suc, ◌≤◌}
use mathlib.Core.Bool.{Bool, true, false, false≢true}
use mathlib.Core.Path.{◌≡◌, refl, sym, ◌∙◌, ap, ap₂}
use mathlib.Core.List.{List, [], ◌∷◌, ◌++◌}
use native.Mathlib.Omega.{arith}
use borrow.Author.Tests.{leb-true, eqb-true, le-leb, lt-leb, ne_eqb}
use lib.Dec.{leb, eqb}
use lib.IntN.{ℤ}
use lib.ListN.{length, take, drop, get_or, replicate, length-replicate, length-drop, take-append-drop}
use lib.Seq.{drop-cons, drop-drop, length-take-le}
use Rattle.wing_node.specs.Bool.{if, and}
use Rattle.wing_node.specs.Digits.{digits_in}
use Rattle.wing_node.specs.Field.{big, bytes_of}
use Rattle.wing_node.specs.Signed.{signed, unsigned, InBits}
use Rattle.wing_node.specs.Utf8.{utf8}
use Rattle.wing_node.specs.Value.{NodeValue, integer, float, string}
use Rattle.wing_node.proofs.Numerals.Numbers.{Digits, digits-take, digits-drop, digits_number, number_digits, length-digits_in}
use Rattle.wing_node.proofs.Branches.{if-both}
use Rattle.wing_wire.specs.State.{zeros}
use Rattle.wing_wire.specs.Reader.{over, filled}
use Rattle.wing_mirror.specs.Origin.{origin_number, origin_of}
use Rattle.wing_mirror.specs.Entry.{entry, storable, Typed}
use Rattle.wing_mirror.specs.Record.{kind_of, payload_of, record_of, kind_in, length_in, payload_in, value_in, entry_in, string_kept, well_kept, well_formed}
use Rattle.wing_mirror.specs.declared.origin.Origin.{Origin}
use Rattle.wing_mirror.specs.declared.origin.Origin.TheVariants.{Console, SetOrder}
use Rattle.wing_mirror.proofs.Records.Words.{word_back, int-back, word-again, int-again}
use Rattle.wing_mirror.proofs.Records.Formed.{take-over}

string-back : (s : List ℕ) → length s ≤ 256 → take (big (bytes_of 2 (length s))) (filled 256 s) ≡ s
string-back s h =
    let z : length (replicate {A = ℕ} 256 0) ≡ 256 = length-replicate {A = ℕ} 256 0 in
    ap (λ (n : ℕ). take n (filled 256 s)) (number_digits 256 2 (length s) (omega arith) (omega arith)) ∙ take-over s (replicate 256 0) (omega arith)

-- 02: an origin by its number, both ways
pub origin-back : (o : Origin) → origin_of (origin_number o) ≡ o
unfolding origin_of origin_number
origin-back Console = refl
origin-back SetOrder = refl

pub origin-again : (n : ℕ) → n ≤ 1 → origin_number (origin_of n) ≡ n
unfolding origin_of origin_number
origin-again zero h = refl
origin-again (suc zero) h = refl
origin-again (suc (suc n)) h = absurd (omega arith)

-- what was laid is what is read
value-back : (id : ℤ) (v : NodeValue) (o : Origin) → InBits 31 id → Typed v → storable v ≡ true → entry_in (record_of (entry id v o)) ≡ entry id v (origin_of (origin_number o))
unfolding entry_in value_in record_of kind_of payload_of storable digits_in
value-back id (integer x) o h t s = ap₂ (λ (i y : ℤ). entry i (integer y) (origin_of (origin_number o))) (int-back id h) (int-back x t)
value-back id (float bits) o h t s = ap₂ (λ (i : ℤ) (y : ℕ). entry i (float y) (origin_of (origin_number o))) (int-back id h) (word_back bits t)
value-back id (string l) o h t s =
    ap₂ (λ (i : ℤ) (y : List ℕ). entry i (string y) (origin_of (origin_number o))) (int-back id h) (string-back l (leb-true (length l) 256 (if-both (leb (length l) 256) (utf8 l) s).0))

pub entry-back : (id : ℤ) (v : NodeValue) (o : Origin) → InBits 31 id → Typed v → storable v ≡ true → entry_in (record_of (entry id v o)) ≡ entry id v o
entry-back id v o h t s = value-back id v o h t s ∙ ap (entry id v) (origin-back o)

zeros-cons : (a : ℕ) (s : List ℕ) → zeros (a ∷ s) ≡ true → (a ≡ 0) × (zeros s ≡ true)
unfolding zeros
zeros-cons a s h = go (eqb a 0) refl h
  where
    go : (t : Bool) → eqb a 0 ≡ t → and t (zeros s) ≡ true → (a ≡ 0) × (zeros s ≡ true)
    go true q k = (eqb-true a 0 q, k)
    go false q k = absurd (false≢true k)

-- zeros after the first n: the first n, zero-filled
fill-back : (m n : ℕ) (p : List ℕ) → length p ≡ m → zeros (drop n p) ≡ true → over (take n p) (replicate m 0) ≡ p
fill-back zero n [] e z = go n
  where
    go : (k : ℕ) → over (take k []) [] ≡ []
    go zero = refl
    go (suc k) = refl
fill-back zero n (a ∷ p) e z = absurd (omega arith)
fill-back (suc m) n [] e z = absurd (omega arith)
fill-back (suc m) zero (a ∷ p) e z =
    let q = zeros-cons a p z in
    ap₂ {C = List ℕ} (λ x y. x ∷ y) (sym q.0) (fill-back m zero p (omega arith) q.1)
fill-back (suc m) (suc n) (a ∷ p) e z = ap (λ (l : List ℕ). a ∷ l) (fill-back m n p (omega arith) z)

-- the value by kind, length and payload
abbrev value_by : ℕ → ℕ → List ℕ → NodeValue
value_by k n p = if (eqb k 0) (integer (signed 31 (big (take 4 p)))) (if (eqb k 1) (float (big (take 4 p))) (string (take n p)))

module _ (n : ℕ) (p : List ℕ) (long : length p ≡ 256) (bytes : Digits 256 p) where
  four-long : length (take 4 p) ≡ 4
  four-long = length-take-le 4 p (omega arith)

  abbrev Again : ℕ → Type 0
  Again k = (kind_of (value_by k n p) ≡ k) × (length (payload_of (value_by k n p)) ≡ n) × (filled 256 (payload_of (value_by k n p)) ≡ p) × (storable (value_by k n p) ≡ true)

  value-again : (k : ℕ) → well_kept k n p ≡ true → Again k
  unfolding kind_of payload_of storable well_kept string_kept
  value-again zero h =
      let b = if-both (eqb n 4) (zeros (drop 4 p)) h in
      let s : bytes_of 4 (unsigned 31 (signed 31 (big (take 4 p)))) ≡ take 4 p = int-again (take 4 p) four-long (digits-take 256 4 p bytes) in
      (refl, length-digits_in 256 4 (unsigned 31 (signed 31 (big (take 4 p)))) ∙ sym (eqb-true n 4 b.0), ap (filled 256) s ∙ fill-back 256 4 p long b.1, refl)
  value-again (suc zero) h =
      let b = if-both (eqb n 4) (zeros (drop 4 p)) h in
      let s : bytes_of 4 (big (take 4 p)) ≡ take 4 p = word-again (take 4 p) four-long (digits-take 256 4 p bytes) in
      (refl, length-digits_in 256 4 (big (take 4 p)) ∙ sym (eqb-true n 4 b.0), ap (filled 256) s ∙ fill-back 256 4 p long b.1, refl)
  value-again (suc (suc zero)) h =
      let b = if-both (leb n 256) (if (zeros (drop n p)) (utf8 (take n p)) false) h in
      let d = if-both (zeros (drop n p)) (utf8 (take n p)) b.1 in
      let few = leb-true n 256 b.0 in
      let l : length (take n p) ≡ n = length-take-le n p (omega arith) in
      (refl, l, fill-back 256 n p long d.0, rw (l, le-leb n 256 few) d.1)
  value-again (suc (suc (suc k))) h =
      absurd (false≢true (rw (lt-leb (suc (suc (suc k))) 1 (omega arith), ne_eqb (suc (suc (suc k))) 2 (omega arith)) at h))

-- the parts of 264 bytes
abbrev build : List ℕ → ℕ → ℕ → List ℕ → List ℕ → List ℕ
build a k z l p = a ++ (k ∷ z ∷ (l ++ p))

parts : (r : List ℕ) → length r ≡ 264 → build (take 4 r) (get_or r 4 0) (get_or r 5 0) (take 2 (drop 6 r)) (drop 8 r) ≡ r
parts r h =
    let last : take 2 (drop 6 r) ++ drop 8 r ≡ drop 6 r = ap (λ (l : List ℕ). take 2 (drop 6 r) ++ l) (sym (drop-drop 2 6 r)) ∙ take-append-drop 2 (drop 6 r) in
    ap (λ (l : List ℕ). take 4 r ++ (get_or r 4 0 ∷ get_or r 5 0 ∷ l)) last
    ∙ ap (λ (l : List ℕ). take 4 r ++ (get_or r 4 0 ∷ l)) (sym (drop-cons r 5 0 (omega arith)))
    ∙ ap (λ (l : List ℕ). take 4 r ++ l) (sym (drop-cons r 4 0 (omega arith)))
    ∙ take-append-drop 4 r

module _ (r : List ℕ) (wide : length r ≡ 264) (bytes : Digits 256 r) (form : well_formed r ≡ true) where
  first : (leb (get_or r 5 0) 1 ≡ true) × (well_kept (kind_in r) (length_in r) (payload_in r) ≡ true)
  first = if-both (leb (get_or r 5 0) 1) (well_kept (kind_in r) (length_in r) (payload_in r)) (unfold well_formed in form)

  again : Again (length_in r) (drop 8 r) (omega (arith, length-drop 8 r)) (digits-drop 256 8 r bytes) (get_or r 4 0)
  again = value-again (length_in r) (drop 8 r) (omega (arith, length-drop 8 r)) (digits-drop 256 8 r bytes) (get_or r 4 0) first.1

  -- a record that was read may be kept
  pub read-storable : storable (value_in r) ≡ true
  unfolding value_in
  read-storable = again.3

  pub record-back : record_of (entry_in r) ≡ r
  unfolding record_of entry_in value_in
  record-back =
      let v = value_by (get_or r 4 0) (length_in r) (drop 8 r) in
      let o : ℕ = origin_number (origin_of (get_or r 5 0)) in
      let l : length (take 2 (drop 6 r)) ≡ 2 = length-take-le 2 (drop 6 r) (omega (arith, length-drop 6 r)) in
      let w : bytes_of 2 (length (payload_of v)) ≡ take 2 (drop 6 r) =
      ap (bytes_of 2) again.1 ∙ digits_number 256 2 (take 2 (drop 6 r)) l (digits-take 256 2 (drop 6 r) (digits-drop 256 6 r bytes)) in
      ap (λ (a : List ℕ). build a (kind_of v) o (bytes_of 2 (length (payload_of v))) (filled 256 (payload_of v))) (int-again (take 4 r) (length-take-le 4 r (omega arith)) (digits-take 256 4 r bytes))
      ∙ ap (λ (k : ℕ). build (take 4 r) k o (bytes_of 2 (length (payload_of v))) (filled 256 (payload_of v))) again.0
      ∙ ap (λ (z : ℕ). build (take 4 r) (get_or r 4 0) z (bytes_of 2 (length (payload_of v))) (filled 256 (payload_of v))) (origin-again (get_or r 5 0) (leb-true (get_or r 5 0) 1 first.0))
      ∙ ap₂ (λ (a b : List ℕ). build (take 4 r) (get_or r 4 0) (get_or r 5 0) a b) w again.2
      ∙ parts r wide
