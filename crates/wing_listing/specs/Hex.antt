-- 01: hex pairs. 02: hex digits are lower case.
use Rattle.std.specs.Prelude.{ℕ, ◌+◌, ◌-◌, ◌*◌, ◌/◌, ◌%◌, Bool, List, [], ◌∷◌, map, ltb, leb, eqb, length}
use Rattle.wing_node.specs.Bool.{if, and, or}
use Rattle.wing_node.specs.Bytes.{joined}
use Rattle.wing_mirror.specs.Table.{every}
use Rattle.wing_listing.specs.Integers.{is_digit}

-- the digit of a number below 16: 0 to 9, a to f
unfoldable pub hex_digit : ℕ → ℕ
hex_digit d = if (ltb d 10) (0x30 + d) (0x57 + d)

-- the number of a digit
unfoldable pub hex_value : ℕ → ℕ
hex_value a = if (leb a 0x39) (a - 0x30) (a - 0x57)

-- 02: hex digits are lower case
unfoldable pub is_hex : ℕ → Bool
is_hex a = or (is_digit a) (and (leb 0x61 a) (leb a 0x66))

-- 01: a byte as two hex digits
unfoldable pub pair_of : ℕ → List ℕ
pair_of b = hex_digit (b / 16) ∷ hex_digit (b % 16) ∷ []

-- 01: hex pairs of bytes
abbrev pub pairs_of : List ℕ → List ℕ
pairs_of s = joined (map pair_of s)

-- the bytes of hex pairs, an odd digit at the end left out
unfoldable pub from_pairs : List ℕ → List ℕ
from_pairs [] = []
from_pairs (a ∷ []) = []
from_pairs (a ∷ b ∷ s) = (hex_value a * 16 + hex_value b) ∷ from_pairs s

-- 02: pairs of hex digits in lower case, an even number of them
unfoldable pub are_pairs : List ℕ → Bool
are_pairs s = and (eqb (length s % 2) 0) (every is_hex s)
