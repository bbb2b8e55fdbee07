-- The record of an entry has 01's form, width and order.
use Prim.Native.Nat.{ℕ, zero, suc, ◌≤◌}
use mathlib.Core.Bool.{true}
use mathlib.Core.Path.{◌≡◌, refl, ◌∙◌, ap}
use mathlib.Core.List.{List, [], ◌∷◌}
use native.Mathlib.Omega.{arith}
use native.Mathlib.Nat.{le_of_suc-le-suc, not-suc-le-zero}
use borrow.Author.Tests.{le-leb, leb-true}
use lib.Dec.{leb}
use lib.ListN.{length, take, drop, replicate, length-replicate}
use Rattle.wing_node.specs.Digits.{digits_in}
use Rattle.wing_node.specs.Field.{big, bytes_of}
use Rattle.wing_node.specs.Signed.{unsigned, InBits}
use Rattle.wing_node.specs.Utf8.{utf8}
use Rattle.wing_node.specs.Value.{NodeValue, integer, float, string}
use Rattle.wing_node.proofs.Numerals.Numbers.{number_digits, length-digits_in}
use Rattle.wing_node.proofs.Branches.{if-both}
use Rattle.wing_wire.specs.State.{zeros}
use Rattle.wing_wire.specs.Reader.{over, filled}
use Rattle.wing_wire.proofs.Laws.{decoder-laws}
use Rattle.wing_mirror.specs.Origin.{origin_number}
use Rattle.wing_mirror.specs.Entry.{Entry, flipped, rank_of, storable}
use Rattle.wing_mirror.specs.Record.{kind_of, payload_of, record_of, key_of, string_kept, well_kept, well_formed}
use Rattle.wing_mirror.specs.declared.origin.Origin.{Origin}
use Rattle.wing_mirror.specs.declared.origin.Origin.TheVariants.{Console, SetOrder}
use Rattle.wing_mirror.proofs.Records.Words.{unsigned-below}

length-filled : (p : List ℕ) → length (filled 256 p) ≡ 256
length-filled p = decoder-laws.filled_size 256 p

pub record-width : (e : Entry) → length (record_of e) ≡ 264
unfolding record_of digits_in
record-width e = omega (arith, length-filled (payload_of e.value))

pub take-over : (s d : List ℕ) → length s ≤ length d → take (length s) (over s d) ≡ s
take-over [] d h = refl
take-over (a ∷ s) [] h = absurd (not-suc-le-zero h)
take-over (a ∷ s) (b ∷ d) h = ap (λ (l : List ℕ). a ∷ l) (take-over s d (le_of_suc-le-suc h))

drop-over : (s d : List ℕ) → drop (length s) (over s d) ≡ drop (length s) d
drop-over [] d = refl
drop-over (a ∷ s) [] = refl
drop-over (a ∷ s) (b ∷ d) = drop-over s d

zeros-drop : (n m : ℕ) → zeros (drop n (replicate m 0)) ≡ true
unfolding zeros
zeros-drop zero zero = refl
zeros-drop zero (suc m) = zeros-drop zero m
zeros-drop (suc n) zero = refl
zeros-drop (suc n) (suc m) = zeros-drop n m

string-kept : (s : List ℕ) → length s ≤ 256 → utf8 s ≡ true → string_kept (length s) (filled 256 s) ≡ true
unfolding string_kept
string-kept s h t =
    let z : length (replicate {A = ℕ} 256 0) ≡ 256 = length-replicate {A = ℕ} 256 0 in
    rw (le-leb (length s) 256 h, drop-over s (replicate 256 0), zeros-drop (length s) 256, take-over s (replicate 256 0) (omega arith)) t

number-kept : (kind n : ℕ) → kind ≤ 1 → well_kept kind 4 (filled 256 (bytes_of 4 n)) ≡ true
unfolding well_kept digits_in
number-kept kind n h = rw (le-leb kind 1 h) (zeros-drop 0 252)

kept-string : (s : List ℕ) → length s ≤ 256 → utf8 s ≡ true → well_kept 2 (length s) (filled 256 s) ≡ true
unfolding well_kept
kept-string s h t = string-kept s h t

number-length : (n : ℕ) → big (bytes_of 2 (length (bytes_of 4 n))) ≡ 4
number-length n = ap (λ (m : ℕ). big (bytes_of 2 m)) (length-digits_in 256 4 n) ∙ number_digits 256 2 4 (omega arith) (omega arith)

-- a value that may be kept makes a payload of 01's form
value-kept : (v : NodeValue) → storable v ≡ true → well_kept (kind_of v) (big (bytes_of 2 (length (payload_of v)))) (filled 256 (payload_of v)) ≡ true
unfolding kind_of payload_of storable
value-kept (integer x) h = ap (λ (n : ℕ). well_kept 0 n (filled 256 (bytes_of 4 (unsigned 31 x)))) (number-length (unsigned 31 x)) ∙ number-kept 0 (unsigned 31 x) (omega arith)
value-kept (float bits) h = ap (λ (n : ℕ). well_kept 1 n (filled 256 (bytes_of 4 bits))) (number-length bits) ∙ number-kept 1 bits (omega arith)
value-kept (string s) h =
    ap (λ (n : ℕ). well_kept 2 n (filled 256 s)) (number_digits 256 2 (length s) (omega arith) (omega (arith, few)))
    ∙ kept-string s few (if-both (leb (length s) 256) (utf8 s) h).1
  where
    few : length s ≤ 256
    few = leb-true (length s) 256 (if-both (leb (length s) 256) (utf8 s) h).0

-- 02: an origin is 0 or 1
pub origin-known : (o : Origin) → leb (origin_number o) 1 ≡ true
unfolding origin_number
origin-known Console = refl
origin-known SetOrder = refl

pub record-form : (e : Entry) → storable e.value ≡ true → well_formed (record_of e) ≡ true
unfolding well_formed record_of digits_in
record-form e h = rw (origin-known e.origin) (value-kept e.value h)

-- a record stands where its id does
pub record-key : (e : Entry) → InBits 31 e.id → key_of (record_of e) ≡ rank_of e.id
unfolding key_of record_of digits_in
record-key e h = ap flipped (number_digits 256 4 (unsigned 31 e.id) (omega arith) (unsigned-below e.id h))
