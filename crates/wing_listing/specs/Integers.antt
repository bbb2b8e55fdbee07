-- 02: integers fit 32 bits and have no leading zero, no plus sign and no minus zero.
use Rattle.std.specs.Prelude.{ℕ, ◌^◌, Bool, not, List, ltb, leb, eqb, ℤ, length, get_or, drop}
use Rattle.std.specs.Int.Signed.{mag}
use Rattle.wing_node.specs.Bool.{if, and, or}
use Rattle.wing_node.specs.Decimal.{integer_of}
use Rattle.wing_mirror.specs.Table.{every}

-- 0 to 9
unfoldable pub is_digit : ℕ → Bool
is_digit a = and (leb 0x30 a) (leb a 0x39)

-- the first byte of a text, 0 where there is none
abbrev pub first : List ℕ → ℕ
first s = get_or s 0 0

-- 02: no leading zero: at least one byte, and 0 comes first only alone
unfoldable pub no_leading_zero : List ℕ → Bool
no_leading_zero s = and (leb 1 (length s)) (or (eqb (length s) 1) (not (eqb (first s) 0x30)))

-- digits without a leading zero
unfoldable pub is_natural : List ℕ → Bool
is_natural s = and (no_leading_zero s) (every is_digit s)

-- 02: no plus sign, and after a minus sign no zero
unfoldable pub is_signed : List ℕ → Bool
is_signed s = if (eqb (first s) 0x2d) (and (not (eqb (first (drop 1 s)) 0x30)) (is_natural (drop 1 s))) (is_natural s)

-- 02: it fits 32 bits: −2^31 to 2^31 − 1 (mag is n for n and for −(n + 1))
unfoldable pub fits32 : ℤ → Bool
fits32 x = ltb (mag x) (2 ^ 31)

-- 02: an integer in form
unfoldable pub is_integer : List ℕ → Bool
is_integer s = and (is_signed s) (fits32 (integer_of s))
