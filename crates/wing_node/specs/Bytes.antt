-- Bytes: what writes into an array leave in it, and lists of bytes joined.
use Rattle.std.specs.Prelude.{ℕ, ◌+◌, List, [], ◌∷◌, ◌++◌, length, take, drop}

-- d with s in the place of its elements from `from` on
unfoldable pub placed : List ℕ → ℕ → List ℕ → List ℕ
placed d from s = take from d ++ (s ++ drop (from + length s) d)

-- lists of bytes one after the other
unfoldable pub joined : List (List ℕ) → List ℕ
joined [] = []
joined (s ∷ ss) = s ++ joined ss
