-- 01, 02: a place is 264 bytes: id (4, signed), kind (1: 0 integer, 1 float, 2 string), origin (1: 0 console, 1 set order), length (2: 4 for numbers,
-- 0 to 256 for strings), payload (256, zero-filled).
use Rattle.std.specs.Prelude.{ℕ, Bool, false, List, ◌∷◌, ◌++◌, leb, eqb, ℤ, length, take, drop, get_or, set}
use Rattle.std.proofs.lemmas.List.Edits.{sets}
use Rattle.wing_node.specs.Bool.{if}
use Rattle.wing_node.specs.Field.{big, bytes_of}
use Rattle.wing_node.specs.Signed.{signed, unsigned}
use Rattle.wing_node.specs.Utf8.{utf8}
use Rattle.wing_node.specs.Value.{NodeValue, integer, float, string}
use Rattle.wing_wire.specs.State.{zeros}
use Rattle.wing_wire.specs.Reader.{filled}
use Rattle.wing_mirror.specs.Origin.{origin_number, origin_of}
use Rattle.wing_mirror.specs.Entry.{Entry, entry, flipped}
use Rattle.wing_mirror.specs.Layout.{Layout, kept}
use Rattle.wing_mirror.specs.declared.origin.Origin.{Origin}

-- 01: a place is 264 bytes
abbrev pub width : ℕ
width = 264

-- 01's kinds
unfoldable pub kind_of : NodeValue → ℕ
kind_of (integer x) = 0
kind_of (float bits) = 1
kind_of (string s) = 2

-- 01: the payload of a number is its four bytes, that of a string its bytes
unfoldable pub payload_of : NodeValue → List ℕ
payload_of (integer x) = bytes_of 4 (unsigned 31 x)
payload_of (float bits) = bytes_of 4 bits
payload_of (string s) = s

-- the record of an entry
unfoldable pub record_of : Entry → List ℕ
record_of e =
    let p = payload_of e.value in
    bytes_of 4 (unsigned 31 e.id) ++ (kind_of e.value ∷ origin_number e.origin ∷ (bytes_of 2 (length p) ++ filled 256 p))

-- id and origin laid over the bytes of a record
abbrev pub head_from : List ℕ → ℤ → Origin → List ℕ
head_from out id origin = set (sets out 0 (bytes_of 4 (unsigned 31 id))) 5 (origin_number origin)

-- kind, length and payload laid over the bytes of a record
abbrev pub laid_from : List ℕ → ℕ → List ℕ → List ℕ
laid_from out kind p = sets (sets (set out 4 kind) 6 (bytes_of 2 (length p))) 8 p

-- where a record stands in the order: its id's place
unfoldable pub key_of : List ℕ → ℕ
key_of r = flipped (big (take 4 r))

-- the parts of a record
abbrev pub id_in : List ℕ → ℤ
id_in r = signed 31 (big (take 4 r))

-- 01: the kind, one byte
abbrev pub kind_in : List ℕ → ℕ
kind_in r = get_or r 4 0

-- 02: the byte after the kind is the origin
abbrev pub origin_byte : List ℕ → ℕ
origin_byte r = get_or r 5 0

-- 01: the length, two bytes
abbrev pub length_in : List ℕ → ℕ
length_in r = big (take 2 (drop 6 r))

-- 01: the payload, from the ninth byte on
abbrev pub payload_in : List ℕ → List ℕ
payload_in r = drop 8 r

-- the value, by the kind: 0 integer, 1 float, 2 string
unfoldable pub value_in : List ℕ → NodeValue
value_in r =
    if (eqb (kind_in r) 0) (integer (signed 31 (big (take 4 (payload_in r)))))
    (if (eqb (kind_in r) 1) (float (big (take 4 (payload_in r)))) (string (take (length_in r) (payload_in r))))

-- what a record says
unfoldable pub entry_in : List ℕ → Entry
entry_in r = entry (id_in r) (value_in r) (origin_of (origin_byte r))

-- a string's length is 0 to 256, its bytes are UTF-8, and 0 stands after them
unfoldable pub string_kept : ℕ → List ℕ → Bool
string_kept n p = if (leb n 256) (if (zeros (drop n p)) (utf8 (take n p)) false) false

-- a number's length is 4, and 0 stands after its bytes; a string's is 0 to 256; no other kind
unfoldable pub well_kept : ℕ → ℕ → List ℕ → Bool
well_kept kind n p = if (leb kind 1) (if (eqb n 4) (zeros (drop 4 p)) false) (if (eqb kind 2) (string_kept n p) false)

-- a record has 01's form, with 02's origin: 0 or 1
unfoldable pub well_formed : List ℕ → Bool
well_formed r = if (leb (origin_byte r) 1) (well_kept (kind_in r) (length_in r) (payload_in r)) false

-- this record as a layout: every value is kept
abbrev pub full : Layout
full = record { width = width; key_of = key_of; record_of = record_of; entry_in = entry_in; origin_at = 5; well_formed = well_formed; keeping = λ v. kept }
