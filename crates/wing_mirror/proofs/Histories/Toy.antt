-- A second layout, in small: places of six bytes, an id (4), an integer from 0 to 255 and the origin; no other value is kept. It keeps the laws of
-- a layout, so that demand 3 holds of it.
use Prim.Native.Nat.{ℕ, ◌<◌}
use mathlib.Core.Bool.{true}
use mathlib.Core.Path.{◌≡◌, refl, sym, ◌∙◌, ap, ap₂}
use mathlib.Core.List.{List, [], ◌∷◌, ◌++◌}
use native.Mathlib.Omega.{arith}
use borrow.Author.Tests.{lt-ltb, leb-true}
use lib.Dec.{ltb, leb}
use lib.IntN.{ℤ, pos, negsuc}
use lib.ListN.{length, take, drop, get_or, set, take-append-drop, drop_of_length-le}
use lib.Seq.{drop-cons, length-take-le}
use Rattle.wing_node.specs.Bool.{if}
use Rattle.wing_node.specs.Digits.{digits_in}
use Rattle.wing_node.specs.Field.{big, bytes_of}
use Rattle.wing_node.specs.Signed.{signed, unsigned, InBits}
use Rattle.wing_node.specs.Value.{NodeValue, integer, float, string}
use Rattle.wing_node.proofs.Numerals.Numbers.{Digits, digits-take}
use Rattle.wing_node.proofs.Numerals.Signs.{signed-in}
use Rattle.wing_mirror.specs.Origin.{origin_number, origin_of}
use Rattle.wing_mirror.specs.Entry.{Entry, entry, from_console, storable, flipped, rank_of}
use Rattle.wing_mirror.specs.Layout.{Keeping, kept, unkept, Layout, ValidEntry, Row, Lawful}
use Rattle.wing_mirror.specs.Lookups.{Lookups}
use Rattle.wing_mirror.specs.History.{Histories}
use Rattle.wing_mirror.specs.declared.counts.Mark.TheVariants.{Uncounted}
use Rattle.wing_mirror.specs.declared.origin.Origin.{Origin}
use Rattle.wing_mirror.proofs.Records.Words.{are-digits, word_below, unsigned-below, word_back, int-back, int-again}
use Rattle.wing_mirror.proofs.Records.Formed.{origin-known}
use Rattle.wing_mirror.proofs.Records.Trips.{origin-back, origin-again}
use Rattle.wing_mirror.proofs.Records.Lookups.{lookups}
use Rattle.wing_mirror.proofs.Histories.Demand.{histories}
use Rattle.wing_node.specs.declared.refusal.Refusal.TheVariants.{WidthWrong}

-- integers from 0 to 255 are kept; a set of any other value is refused for one reason
unfoldable pub small : NodeValue → Keeping
small (integer (pos n)) = if (ltb n 256) kept (unkept Uncounted WidthWrong)
small (integer (negsuc n)) = unkept Uncounted WidthWrong
small (float bits) = unkept Uncounted WidthWrong
small (string s) = unkept Uncounted WidthWrong

-- the byte of a value that is kept
unfoldable pub byte_of : NodeValue → ℕ
byte_of (integer (pos n)) = n
byte_of (integer (negsuc n)) = 0
byte_of (float bits) = 0
byte_of (string s) = 0

unfoldable pub toy_record : Entry → List ℕ
toy_record e = bytes_of 4 (unsigned 31 e.id) ++ (byte_of e.value ∷ origin_number e.origin ∷ [])

unfoldable pub toy_entry : List ℕ → Entry
toy_entry r = entry (signed 31 (big (take 4 r))) (integer (pos (get_or r 4 0))) (origin_of (get_or r 5 0))

abbrev pub toy : Layout
toy =
    record {
      width = 6;
      key_of = λ r. flipped (big (take 4 r));
      record_of = toy_record;
      entry_in = toy_entry;
      origin_at = 5;
      well_formed = λ r. leb (get_or r 5 0) 1;
      keeping = small;
    }

toy-wide : (e : Entry) → length (toy_record e) ≡ 6
unfolding toy_record digits_in
toy-wide e = refl

toy-placed : (e : Entry) → InBits 31 e.id → flipped (big (take 4 (toy_record e))) ≡ rank_of e.id
unfolding toy_record digits_in
toy-placed e h = ap flipped (word_back (unsigned 31 e.id) (unsigned-below e.id h))

toy-said : (id : ℤ) (v : NodeValue) (o : Origin) → InBits 31 id → small v ≡ kept → toy_entry (toy_record (entry id v o)) ≡ entry id v o
unfolding toy_entry toy_record byte_of small digits_in
toy-said id (integer (pos n)) o h k = ap₂ (λ (i : ℤ) (x : Origin). entry i (integer (pos n)) x) (int-back id h) (origin-back o)
toy-said id (integer (negsuc n)) o h k = absurd (let z : ◌≡◌ {A = ℕ} 0 1 = cc in omega arith)
toy-said id (float bits) o h k = absurd (let z : ◌≡◌ {A = ℕ} 0 1 = cc in omega arith)
toy-said id (string s) o h k = absurd (let z : ◌≡◌ {A = ℕ} 0 1 = cc in omega arith)

toy-origin : (e : Entry) → get_or (toy_record e) 5 0 ≡ origin_number e.origin
unfolding toy_record digits_in
toy-origin e = refl

toy-cleared : (e : Entry) → set (toy_record e) 5 0 ≡ toy_record (from_console e)
unfolding toy_record origin_number digits_in
toy-cleared e = refl

toy-formed : (e : Entry) → leb (get_or (toy_record e) 5 0) 1 ≡ true
unfolding toy_record digits_in
toy-formed e = origin-known e.origin

module _ (r : List ℕ) (g : Row toy r) where
  bytes : Digits 256 r
  bytes = are-digits r g.bytes

  toy-valid : ValidEntry toy (toy_entry r)
  unfolding toy_entry small storable
  toy-valid =
      let b : get_or r 4 0 < 256 = bytes 4 in
      record { node = signed-in 31 (big (take 4 r)) (word_below r (omega (arith, g.wide)) bytes); typed = omega arith; text = refl; is_kept = rw (lt-ltb (get_or r 4 0) 256 b) }

  toy-back : toy_record (toy_entry r) ≡ r
  unfolding toy_record toy_entry byte_of
  toy-back =
      let o : origin_number (origin_of (get_or r 5 0)) ≡ get_or r 5 0 = origin-again (get_or r 5 0) (leb-true (get_or r 5 0) 1 g.form) in
      let last : drop 5 r ≡ get_or r 5 0 ∷ [] = drop-cons r 5 0 (omega (arith, g.wide)) ∙ ap (λ (l : List ℕ). get_or r 5 0 ∷ l) (drop_of_length-le r {i = 6} (omega (arith, g.wide))) in
      let two : drop 4 r ≡ get_or r 4 0 ∷ get_or r 5 0 ∷ [] = drop-cons r 4 0 (omega (arith, g.wide)) ∙ ap (λ (l : List ℕ). get_or r 4 0 ∷ l) last in
      ap₂ (λ (x : List ℕ) (y : ℕ). x ++ (get_or r 4 0 ∷ y ∷ [])) (int-again (take 4 r) (length-take-le 4 r (omega (arith, g.wide))) (digits-take 256 4 r bytes)) o
      ∙ ap (λ (l : List ℕ). take 4 r ++ l) (sym two)
      ∙ take-append-drop 4 r

pub toy-laws : Lawful toy
toy-laws =
    record {
      wide = toy-wide;
      placed = toy-placed;
      formed = λ e h k. toy-formed e;
      said = λ e p. toy-said e.id e.value e.origin p.node p.is_kept;
      valid = toy-valid;
      back = toy-back;
      origin = toy-origin;
      cleared = toy-cleared;
    }

pub toy-histories : Histories toy
toy-histories = histories toy-laws

pub toy-lookups : Lookups toy
toy-lookups = lookups toy-laws
