-- Fields laid in bytes with what they hold.
use Rattle.std.specs.Prelude.{ℕ, ◌≡◌, true, List, [], ◌∷◌, ◌++◌, length}
use Rattle.wing_node.specs.Utf8.{utf8}
use Rattle.wing_node.specs.Field.{big}
use Rattle.wing_node.specs.Cursor.{Field, number, string}

-- the bytes of a field that holds v
unfoldable pub laid : Field → List ℕ → List ℕ
laid (number w) v = v
laid string v = length v ∷ v

-- fields one after the other, each with what it holds
unfoldable pub laid_all : List Field → List (List ℕ) → List ℕ
laid_all [] vs = []
laid_all (f ∷ fs) [] = []
laid_all (f ∷ fs) (v ∷ vs) = laid f v ++ laid_all fs vs

-- a field can hold v
abbrev pub Fits : Field → List ℕ → Type 0
Fits (number w) v = length v ≡ w
Fits string v = utf8 v ≡ true

-- each fits its form
pub data FitsAll : List Field → List (List ℕ) → Type 0 where
  empty : FitsAll [] []
  more : {f : Field} {v : List ℕ} {fs : List Field} {vs : List (List ℕ)} → Fits f v → FitsAll fs vs → FitsAll (f ∷ fs) (v ∷ vs)

-- its number
unfoldable pub number_of : Field → List ℕ → ℕ
number_of (number w) v = big v
number_of string v = length v
