-- 01: the program `mirror` prints a header, then for each record in order, with commas between, id in decimal, kind letter i, f or s, and the
-- value (decimal; eight hex digits; hex pairs), each line ended by 0a.
use Rattle.std.specs.Prelude.{ℕ, List, [], ◌∷◌, ◌++◌, map}
use Rattle.wing_node.specs.Bytes.{joined}
use Rattle.wing_node.specs.Decimal.{decimal}
use Rattle.wing_node.specs.Field.{bytes_of}
use Rattle.wing_node.specs.Value.{NodeValue, integer, float, string}
use Rattle.wing_mirror.specs.Rows.{Table}
use Rattle.wing_mirror.specs.Entry.{Entry}
use Rattle.wing_mirror.specs.Record.{full, entry_in}
use Rattle.wing_mirror.specs.Table.{rows}
use Rattle.wing_listing.specs.Parts.{comma, ended}
use Rattle.wing_listing.specs.Hex.{pairs_of}

-- 01: the header, id,kind,value
abbrev pub header : List ℕ
header = 0x69 ∷ 0x64 ∷ 0x2c ∷ 0x6b ∷ 0x69 ∷ 0x6e ∷ 0x64 ∷ 0x2c ∷ 0x76 ∷ 0x61 ∷ 0x6c ∷ 0x75 ∷ 0x65 ∷ []

-- 01: the kind letters i, f, s
abbrev pub letter_i : ℕ
letter_i = 0x69

abbrev pub letter_f : ℕ
letter_f = 0x66

abbrev pub letter_s : ℕ
letter_s = 0x73

-- 01: the letter of a value's kind
unfoldable pub letter_of : NodeValue → ℕ
letter_of (integer x) = letter_i
letter_of (float bits) = letter_f
letter_of (string s) = letter_s

-- 01: the value: decimal; eight hex digits, those of its four bytes; hex pairs
unfoldable pub value_text : NodeValue → List ℕ
value_text (integer x) = decimal x
value_text (float bits) = pairs_of (bytes_of 4 bits)
value_text (string s) = pairs_of s

-- 01: id, kind letter and value, with commas between
unfoldable pub line_of : Entry → List ℕ
line_of e = decimal e.id ++ (comma ∷ letter_of e.value ∷ comma ∷ value_text e.value)

-- 01: the header and then a line for each entry, each ended by 0a
unfoldable pub listing_of : List Entry → List ℕ
listing_of es = ended header ++ joined (map (λ (e : Entry). ended (line_of e)) es)

-- the listing of a table: of each record in order
abbrev pub printed : Table → List ℕ
printed t = listing_of (map entry_in (rows full t))
