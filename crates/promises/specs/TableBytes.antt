-- 01, 02: what the bytes of a table mean, in figures, told beside the mirror's own definitions; and when a new node has no place.
use Rattle.std.specs.Prelude.{ℕ, ◌+◌, ◌*◌, ◌/◌, ◌<◌, ◌≤◌, true, false, ◌≡◌, ◌↔◌, List, [], ℤ, length, take, drop, get_or}
use Rattle.std.specs.Int.Signed.{lt_z}
use Rattle.wing_node.specs.Field.{big}
use Rattle.wing_node.specs.Signed.{signed, InBits}
use Rattle.wing_node.specs.Utf8.{utf8}
use Rattle.wing_node.specs.Value.{NodeValue, integer, float, string}
use Rattle.wing_wire.specs.Range.{AreBytes}
use Rattle.wing_mirror.specs.Rows.{Table}
use Rattle.wing_mirror.specs.Entry.{Entry, entry}
use Rattle.wing_mirror.specs.Layout.{ValidEntry}
use Rattle.wing_mirror.specs.Record.{record_of, entry_in, full}
use Rattle.wing_mirror.specs.Table.{rows, places_allowed, sound_table, usable, fits}
use Rattle.wing_mirror.specs.Origin.{origin_number}
use Rattle.wing_mirror.specs.declared.origin.Origin.{Origin}
use Rattle.wing_mirror.specs.declared.origin.Origin.TheVariants.{Console, SetOrder}

-- 01: a place is 264 bytes; that of number n is bytes 264 n to 264 n + 263
abbrev pub place_at : ℕ → List ℕ → List ℕ
place_at n buffer = take 264 (drop (264 * n) buffer)

-- 01: places = buffer length div 264
abbrev pub places_in : List ℕ → ℕ
places_in buffer = length buffer / 264

-- ---- the parts of a place; 01: multi-byte numbers are big-endian

-- 01: id (4, signed)
abbrev pub id_at : List ℕ → ℤ
id_at p = signed 31 (big (take 4 p))

-- 01: kind (1: 0 integer, 1 float, 2 string)
abbrev pub kind_at : List ℕ → ℕ
kind_at p = get_or p 4 0

-- 02: origin (1: 0 console, 1 set order)
abbrev pub origin_byte_at : List ℕ → ℕ
origin_byte_at p = get_or p 5 0

-- 01: length (2)
abbrev pub length_at : List ℕ → ℕ
length_at p = big (take 2 (drop 6 p))

-- 01: payload: the first n of its bytes
abbrev pub payload_at : ℕ → List ℕ → List ℕ
payload_at n p = take n (drop 8 p)

-- ---- which tables are sound

-- 01: a record: length 4 for numbers, 0 to 256 for strings, which are UTF-8; zero-filled; no other kind. 02: origin 0 or 1
pub record RecordBytes (p : List ℕ) : Type 0 where
  pub kind : kind_at p ≤ 2
  pub origin : origin_byte_at p ≤ 1
  pub number : kind_at p ≤ 1 → length_at p ≡ 4
  pub string : kind_at p ≡ 2 → (length_at p ≤ 256) × (utf8 (payload_at (length_at p) p) ≡ true)
  pub filled : (n : ℕ) → length_at p ≤ n → get_or p (8 + n) 0 ≡ 0

-- 01: sound: no more records than places, each of this form, in strictly rising order of signed ids
pub record SoundBytes (t : Table) : Type 0 where
  pub room : t.count ≤ places_in t.buffer
  pub form : (n : ℕ) → n < t.count → RecordBytes (place_at n t.buffer)
  pub order : (n : ℕ) → n + 1 < t.count → lt_z (id_at (place_at n t.buffer)) (id_at (place_at (n + 1) t.buffer)) ≡ true

-- 01: usable: sound, with 1 to 1,024 places; any other gets 7
pub record UsableBytes (t : Table) : Type 0 where
  pub least : 1 ≤ places_in t.buffer
  pub most : places_in t.buffer ≤ 1024
  pub sound : SoundBytes t

-- ---- what is promised

-- of any table, and of the bytes of any place
pub record TableBytes : Type 0 where
  -- 01: the first count records, one in each place
  pub count : (t : Table) → length (rows full t) ≡ t.count
  pub place : (t : Table) (n : ℕ) → n < t.count → get_or (rows full t) n [] ≡ place_at n t.buffer
  -- what a record says: its node, its value by the kind and, by 02, who gave it
  pub id : (p : List ℕ) → (entry_in p).id ≡ id_at p
  pub integers : (p : List ℕ) → kind_at p ≡ 0 → (entry_in p).value ≡ integer (signed 31 (big (payload_at 4 p)))
  pub floats : (p : List ℕ) → kind_at p ≡ 1 → (entry_in p).value ≡ float (big (payload_at 4 p))
  pub strings : (p : List ℕ) → kind_at p ≡ 2 → (entry_in p).value ≡ string (payload_at (length_at p) p)
  pub console : (p : List ℕ) → origin_byte_at p ≡ 0 → (entry_in p).origin ≡ Console
  pub set_order : (p : List ℕ) → origin_byte_at p ≡ 1 → (entry_in p).origin ≡ SetOrder
  -- what an entry that a table takes is stored as: 264 bytes of this form, which say it
  pub stored : (e : Entry) → ValidEntry full e → (length (record_of e) ≡ 264) × RecordBytes (record_of e) × (entry_in (record_of e) ≡ e)
  -- 01: places 1 to 1,024
  pub allowed : (n : ℕ) → (places_allowed n ≡ true ↔ ((1 ≤ n) × (n ≤ 1024)))
  -- which tables are sound, and which the calls take; bytes are below 256, as their type says
  pub sound : (t : Table) → AreBytes t.buffer → (sound_table full t ≡ true ↔ SoundBytes t)
  pub taken : (t : Table) → AreBytes t.buffer → (usable full t ≡ true ↔ UsableBytes t)

-- 02: an origin's number, 0 for the console and 1 for a set order
abbrev pub OriginNumbers : Type 0
OriginNumbers = (origin_number Console ≡ 0) × (origin_number SetOrder ≡ 1)

-- 01: new node, no place left: no record has the id, and there are no more places than records
pub record NoPlaceLeft (id : ℤ) (t : Table) : Type 0 where
  pub new : (n : ℕ) → n < t.count → id_at (place_at n t.buffer) ≡ id → ⊥
  pub none_left : places_in t.buffer ≤ t.count

-- in a usable table a value has no place exactly then, whatever it is and whoever gives it; ids have 32 bits, as their type says
abbrev pub NoPlace : Type 0
NoPlace = (t : Table) (id : ℤ) (v : NodeValue) (origin : Origin) → AreBytes t.buffer → InBits 31 id → usable full t ≡ true →
    (fits full (entry id v origin) t ≡ false ↔ NoPlaceLeft id t)
