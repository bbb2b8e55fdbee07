-- The 264-byte record keeps the laws of a layout.
use Prim.Native.Nat.{ℕ, ◌^◌, ◌<◌}
use mathlib.Core.Path.{◌≡◌, refl}
use mathlib.Core.List.{List}
use native.Mathlib.Omega.{arith}
use lib.Dec.{eqb}
use lib.ListN.{take, get_or, set, length-drop}
use Rattle.wing_node.specs.Digits.{digits_in}
use Rattle.wing_node.specs.Field.{big}
use Rattle.wing_node.specs.Signed.{signed}
use Rattle.wing_node.specs.Value.{integer, float, string}
use Rattle.wing_node.proofs.Branches.{branch}
use Rattle.wing_node.proofs.Numerals.Numbers.{Digits, digits-drop}
use Rattle.wing_node.proofs.Numerals.Signs.{signed-in}
use Rattle.wing_mirror.specs.Origin.{origin_number}
use Rattle.wing_mirror.specs.Entry.{Entry, from_console, Typed}
use Rattle.wing_mirror.specs.Layout.{ValidEntry, Row, Lawful}
use Rattle.wing_mirror.specs.Record.{record_of, value_in, entry_in, kind_in, length_in, payload_in, full}
use Rattle.wing_mirror.proofs.Records.Words.{are-digits, word_below}
use Rattle.wing_mirror.proofs.Records.Formed.{record-width, record-form, record-key}
use Rattle.wing_mirror.proofs.Records.Trips.{entry-back, read-storable, record-back}

module _ (r : List ℕ) (g : Row full r) where
  bytes : Digits 256 r
  bytes = are-digits r g.bytes

  id_below : big (take 4 r) < 2 ^ 32
  id_below = word_below r (omega (arith, g.wide)) bytes

  value-below : big (take 4 (payload_in r)) < 2 ^ 32
  value-below = word_below (payload_in r) (omega (arith, length-drop 8 r, g.wide)) (digits-drop 256 8 r bytes)

  value-typed : Typed (value_in r)
  unfolding value_in
  value-typed =
      branch Typed (eqb (kind_in r) 0) (integer (signed 31 (big (take 4 (payload_in r))))) _ (λ _. signed-in 31 (big (take 4 (payload_in r))) value-below)
      (λ _. branch Typed (eqb (kind_in r) 1) (float (big (take 4 (payload_in r)))) (string (take (length_in r) (payload_in r))) (λ _. omega (arith, value-below)) (λ _. tt))

  -- its entry is valid
  row-valid : ValidEntry full (entry_in r)
  unfolding entry_in
  row-valid =
      record { node = signed-in 31 (big (take 4 r)) id_below; typed = value-typed; text = read-storable r g.wide bytes g.form; is_kept = refl }

-- 02: the origin is the byte after the kind
record-origin : (e : Entry) → get_or (record_of e) 5 0 ≡ origin_number e.origin
unfolding record_of digits_in
record-origin e = refl

record-cleared : (e : Entry) → set (record_of e) 5 0 ≡ record_of (from_console e)
unfolding record_of origin_number digits_in
record-cleared e = refl

pub full-laws : Lawful full
full-laws =
    record {
      wide = record-width;
      placed = record-key;
      formed = λ e h k. record-form e h;
      said = λ e p. entry-back e.id e.value e.origin p.node p.typed p.text;
      valid = row-valid;
      back = λ r g. record-back r g.wide (bytes r g) g.form;
      origin = record-origin;
      cleared = record-cleared;
    }
