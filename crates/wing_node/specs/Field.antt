-- Number fields: big-endian, of any width.
use Rattle.std.specs.Prelude.{ℕ, ◌-◌, Bool, true, false, List, ltb, length, take, drop}
use Rattle.wing_node.specs.Bool.{if}
use Rattle.wing_node.specs.Bytes.{placed}
use Rattle.wing_node.specs.Digits.{number_in, digits_in}

-- 01: multi-byte numbers are big-endian. The number whose bytes these are
abbrev pub big : List ℕ → ℕ
big s = number_in 256 s

-- a number in w bytes
abbrev pub bytes_of : ℕ → ℕ → List ℕ
bytes_of w n = digits_in 256 w n

-- the number in the w bytes from a place on, 0 where fewer are left
unfoldable pub field_at : ℕ → List ℕ → ℕ → ℕ
field_at w s at = if (ltb (length s - at) w) 0 (big (take w (drop at s)))

-- what a writer leaves: whether there was room, and the bytes
pub record Put : Type 0 where
  pub fits : Bool
  pub bytes : List ℕ

-- whether there was room, and the bytes
abbrev pub put : Bool → List ℕ → Put
put fits bytes = record { fits = fits; bytes = bytes }

-- bytes written from a place on; where fewer are left there, nothing is written
unfoldable pub put_at : List ℕ → ℕ → List ℕ → Put
put_at bs at s = if (ltb (length s - at) (length bs)) (put false s) (put true (placed s at bs))
