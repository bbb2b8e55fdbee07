-- What a table of any layout is asked, and the answers that say it.
use Rattle.std.specs.Prelude.{ℕ, Bool, true, false, List, [], ◌∷◌, ltb, eqb, ℤ, length, get_or, replicate, Ok, Some, Option, None, Err}
use Rattle.wing_node.specs.Bool.{if}
use Rattle.wing_node.specs.Value.{NodeValue, integer, float, string}
use Rattle.wing_node.specs.declared.value.Value.{Value}
use Rattle.wing_node.specs.declared.value.Value.TheVariants.{Integer, Float, String}
use Rattle.wing_wire.specs.Reader.{filled}
use Rattle.wing_mirror.specs.Rows.{Table, Found, found, nothing}
use Rattle.wing_mirror.specs.Entry.{Entry}
use Rattle.wing_mirror.specs.Layout.{Layout}
use Rattle.wing_mirror.specs.Table.{rows, usable, lookup_of}
use Rattle.wing_mirror.specs.declared.answer.RecordRead.{RecordRead}
use Rattle.wing_mirror.specs.declared.origin.Origin.{Origin}
use Rattle.wing_node.specs.Result.{Result}
use Rattle.wing_node.specs.declared.refusal.Refusal.TheVariants.{TableUnsound, NumberOver}

-- 01: an id's record number, or none
unfoldable pub answer_of : Found ℕ → Result (Option ℕ)
answer_of (found n) = Ok (Some n)
answer_of nothing = (Ok None)

-- a value, with the length of a string
unfoldable pub value_of : NodeValue → Value
value_of (integer x) = Integer x
value_of (float bits) = Float bits
value_of (string s) = String (length s)

-- the bytes beside it, zero-filled
unfoldable pub bytes_beside : NodeValue → List ℕ
bytes_beside (integer x) = replicate 256 0
bytes_beside (float bits) = replicate 256 0
bytes_beside (string s) = filled 256 s

-- a value that is no string, with the bytes beside it all 0
abbrev pub beside_zeros : ℤ → Value → Origin → RecordRead
beside_zeros id value origin = record { id = id; value = value; origin = origin; string = replicate 256 0 }

-- 01, 02: a record read gives id, value, origin and string
unfoldable pub read_of : Entry → RecordRead
read_of e = record { id = e.id; value = value_of e.value; origin = e.origin; string = bytes_beside e.value }

-- two lists of bytes are one
unfoldable pub same_bytes : List ℕ → List ℕ → Bool
same_bytes [] [] = true
same_bytes [] (y ∷ ys) = false
same_bytes (x ∷ xs) [] = false
same_bytes (x ∷ xs) (y ∷ ys) = if (eqb x y) (same_bytes xs ys) false

-- two lists of records are one
unfoldable pub same_rows : List (List ℕ) → List (List ℕ) → Bool
same_rows [] [] = true
same_rows [] (q ∷ qs) = false
same_rows (r ∷ rs) [] = false
same_rows (r ∷ rs) (q ∷ qs) = if (same_bytes r q) (same_rows rs qs) false

module _ (L : Layout) where
  open L use {entry_in}

  -- 01: 7 for a table that is not usable
  unfoldable pub lookup_answer : Table → ℤ → Result (Option ℕ)
  lookup_answer t id = if (usable L t) (answer_of (lookup_of L id t)) (Err TableUnsound)

  -- 01: 7, then 14 for a number that is not below the count; else what the record of this number says
  unfoldable pub record_answer : Table → ℕ → Result RecordRead
  record_answer t number = if (usable L t) (if (ltb number t.count) (Ok (read_of (entry_in (get_or (rows L t) number [])))) (Err NumberOver)) (Err TableUnsound)

  -- 01: two are equal if count and records are; 02: origins included
  unfoldable pub same_tables : Table → Table → Bool
  same_tables s t = if (eqb s.count t.count) (same_rows (rows L s) (rows L t)) false

  -- 01: 7 for either table
  unfoldable pub same_answer : Table → Table → Result Bool
  same_answer s t = if (usable L s) (if (usable L t) (Ok (same_tables s t)) (Err TableUnsound)) (Err TableUnsound)
