-- 01, Writers: the bytes of each command.
use Rattle.std.specs.Prelude.{ℕ, ◌+◌, ◌-◌, Bool, false, List, [], ◌∷◌, ◌++◌, leb, eqb, ℤ, pos, negsuc, nat_abs, length, Err, Option, None, Some}
use Rattle.std.specs.Int.Signed.{le_z}
use Rattle.wing_node.specs.Bool.{if}
use Rattle.wing_node.specs.Signed.{unsigned}
use Rattle.wing_node.specs.Utf8.{utf8}
use Rattle.wing_node.specs.Value.{NodeValue, integer, float, string}
use Rattle.wing_node.specs.Refusal.{string_not_utf8}
use Rattle.wing_wire.specs.Write.{escaped, field, WriteEffect, write_effect, write_of}
use Rattle.wing_node.specs.declared.refusal.Refusal.TheVariants.{StringLong}

-- whether x is from a to b
abbrev pub from◌to◌ : ℤ → ℤ → ℤ → Bool
from◌to◌ a b x = if (le_z a x) (le_z x b) false

-- 01: integers 0 to 63 are one byte; −32768 to 32767 are d3 and two bytes; others d4 and four
unfoldable pub integer_bytes : ℤ → List ℕ
integer_bytes x =
    if (from◌to◌ (pos 0) (pos 63) x) (nat_abs x ∷ [])
    (if (from◌to◌ (negsuc 32767) (pos 32767) x) (0xd3 ∷ field 2 (unsigned 15 x))
    (0xd4 ∷ field 4 (unsigned 31 x)))

-- 01: floats d5 and four bytes
unfoldable pub float_bytes : ℕ → List ℕ
float_bytes bits = 0xd5 ∷ field 4 bits

-- 01: strings: d0; 80 + length − 1 up to 64; d1 and length − 1 up to 256. What stands before a string's bytes
unfoldable pub length_bytes : ℕ → List ℕ
length_bytes n =
    if (eqb n 0) (0xd0 ∷ [])
    (if (leb n 64) ((0x80 + (n - 1)) ∷ [])
    (0xd1 ∷ escaped ((n - 1) ∷ [])))

-- 01: the length, then the bytes, each df followed by de
unfoldable pub string_bytes : List ℕ → List ℕ
string_bytes s = length_bytes (length s) ++ escaped s

-- a value by its kind
unfoldable pub value_bytes : NodeValue → List ℕ
value_bytes (integer x) = integer_bytes x
value_bytes (float bits) = float_bytes bits
value_bytes (string s) = string_bytes s

-- an id between a prefix and what follows it, as libwing's format_id has it
unfoldable pub id_bytes : ℕ → ℤ → List ℕ → List ℕ
id_bytes prefix id suffix = prefix ∷ (field 4 (unsigned 31 id) ++ suffix)

-- format_id's suffix: none, or one byte
unfoldable pub suffix_bytes : Option ℕ → List ℕ
suffix_bytes None = []
suffix_bytes (Some b) = b ∷ []

-- 01: set: d7, id, value
unfoldable pub set_bytes : ℤ → NodeValue → List ℕ
set_bytes id v = id_bytes 0xd7 id (value_bytes v)

-- 01: a string over 256 is 10, then one that is not UTF-8 is 1, then 9
unfoldable pub set_string : ℤ → List ℕ → List ℕ → WriteEffect
set_string id s out =
    if (leb (length s) 256) (if (utf8 s) (write_of (set_bytes id (string s)) out) (write_effect (Err (string_not_utf8 s)) out)) (write_effect (Err StringLong) out)

-- 01: definition request: da dd for id 0, else d7 id dd; data request dc for dd
unfoldable pub request_bytes : ℕ → ℤ → List ℕ
request_bytes what (pos n) = if (eqb n 0) (0xda ∷ what ∷ []) (id_bytes 0xd7 (pos n) (what ∷ []))
request_bytes what (negsuc n) = id_bytes 0xd7 (negsuc n) (what ∷ [])
