-- Fields at the front of bytes, one after the other: which of them stand there whole and good, and where the first fails.
use Rattle.std.specs.Prelude.{ℕ, ◌+◌, ◌≤◌, true, false, ◌≡◌, List, [], ◌∷◌, ◌++◌, length, drop}
use Rattle.wing_node.specs.Utf8.{good}
use Rattle.wing_node.specs.Cursor.{Field, size, content, right}

-- a field is whole at the front of s: the bytes that it takes are there
abbrev pub Whole : Field → List ℕ → Type 0
Whole f s = size f s ≤ length s

-- 01: field past the end
abbrev pub PastEnd : Field → List ℕ → Type 0
PastEnd f s = Whole f s → ⊥

-- 01: string not UTF-8; length before UTF-8, so the field is whole. 02: so many of its leading bytes form whole characters
abbrev pub NotUtf8 : ℕ → Field → List ℕ → Type 0
NotUtf8 g f s = Whole f s × (right f s ≡ false) × (g ≡ good (content f s))

-- how many bytes fields in a row take
unfoldable pub extent : List Field → List ℕ → ℕ
extent [] s = 0
extent (f ∷ fs) s = size f s + extent fs (drop (size f s) s)

-- the bytes after them
abbrev pub beyond : List Field → List ℕ → List ℕ
beyond fs s = drop (extent fs s) s

-- each field is whole, and its string is UTF-8, where the one before it ends
pub data Stand : List Field → List ℕ → Type 0 where
  empty : {s : List ℕ} → Stand [] s
  more : {f : Field} {fs : List Field} {s : List ℕ} → Whole f s → right f s ≡ true → Stand fs (drop (size f s) s) → Stand (f ∷ fs) s

-- 01: the first failing field counts. Some fields stand, and the next one fails where they end
pub record StopsAt (Fails : Field → List ℕ → Type 0) (fs : List Field) (s : List ℕ) : Type 0 where
  -- the fields before it, it, and the fields after it
  pub stood : List Field
  pub next : Field
  pub others : List Field
  -- they are the row
  pub row : fs ≡ stood ++ (next ∷ others)
  -- those before it stand
  pub stand : Stand stood s
  -- it fails in the bytes after them
  pub fails : Fails next (beyond stood s)
