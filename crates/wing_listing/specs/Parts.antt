-- 02: lines with three fields parted by commas; each line ends with a newline byte (0a).
use Rattle.std.specs.Prelude.{ℕ, List, [], ◌∷◌, ◌++◌, eqb, get_or}
use Rattle.wing_node.specs.Bool.{if}

-- 0a
abbrev pub newline : ℕ
newline = 0x0a

-- ASCII's comma
abbrev pub comma : ℕ
comma = 0x2c

-- a byte before the first part
unfoldable pub onto : ℕ → List (List ℕ) → List (List ℕ)
onto a [] = (a ∷ []) ∷ []
onto a (p ∷ ps) = (a ∷ p) ∷ ps

-- the parts between the bytes b of a text, one more than there are such bytes; each but the last is followed by one
unfoldable pub parted : ℕ → List ℕ → List (List ℕ)
parted b [] = [] ∷ []
parted b (a ∷ s) = if (eqb a b) ([] ∷ parted b s) (onto a (parted b s))

-- the part of a number, from 0; none past the last
abbrev pub part : ℕ → ℕ → List ℕ → List ℕ
part b n s = get_or (parted b s) n []

-- a line with its newline
abbrev pub ended : List ℕ → List ℕ
ended line = line ++ (newline ∷ [])
