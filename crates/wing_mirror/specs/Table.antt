-- The table: records of any layout at the front of a lent buffer, and how many.
use Rattle.std.specs.Prelude.{ℕ, Bool, true, false, List, [], ◌∷◌, leb, ℤ}
use Rattle.wing_node.specs.Bool.{if}
use Rattle.wing_mirror.specs.Rows.{Table, Found, row, rising, places, rows_of, next_above, takes, store, number_of}
use Rattle.wing_mirror.specs.Entry.{Entry, rank_of}
use Rattle.wing_mirror.specs.Layout.{Layout}
use Rattle.wing_mirror.specs.Record.{full}

-- a table by its buffer and count
abbrev pub table : List ℕ → ℕ → Table
table buffer count = record { buffer = buffer; count = count }

-- each element passes
unfoldable pub every : {A : Type 0} → (A → Bool) → List A → Bool
every p [] = true
every p (x ∷ xs) = if (p x) (every p xs) false

-- 01: places 1 to 1,024
unfoldable pub places_allowed : ℕ → Bool
places_allowed n = if (leb 1 n) (leb n 1024) false

-- ---- records of any width, key and form

-- records of the form, in strictly rising order
unfoldable pub checked_of : (List ℕ → ℕ) → (List ℕ → Bool) → List (List ℕ) → Bool
checked_of key form rs = if (every form rs) (rising key rs) false

module _ (w : ℕ) (key : List ℕ → ℕ) (form : List ℕ → Bool) where
  -- the record of a number has the form, and stands before the next
  unfoldable pub passes_at : List ℕ → ℕ → ℕ → Bool
  passes_at buffer count number = if (form (row w number buffer)) (next_above w key buffer count number) false

  -- no more records than places, each of the form and in its order
  unfoldable pub sound_of : Table → Bool
  sound_of t = if (leb t.count (places w t)) (checked_of key form (rows_of w t)) false

  -- a sound table with as many places as are allowed
  unfoldable pub usable_of : Table → Bool
  usable_of t = if (places_allowed (places w t)) (sound_of t) false

-- ---- those of a layout

module _ (L : Layout) where
  open L use {width, key_of, record_of, well_formed}

  -- its records
  abbrev pub rows : Table → List (List ℕ)
  rows t = rows_of width t

  -- records of the form, in strictly rising order
  abbrev pub checked : List (List ℕ) → Bool
  checked rs = checked_of key_of well_formed rs

  -- 01: a table is sound when its count is at most its places, its records have this form and order and its strings are UTF-8
  abbrev pub sound_table : Table → Bool
  sound_table t = sound_of width key_of well_formed t

  -- 01: what is not usable gets 7
  abbrev pub usable : Table → Bool
  usable t = usable_of width key_of well_formed t

  -- an entry stored: in its place, or instead of the record with its id
  unfoldable pub put : Entry → Table → Table
  put e t = store width key_of (record_of e) t

  -- 01: its node has a record, or a place is free
  unfoldable pub fits : Entry → Table → Bool
  fits e t = takes width key_of (record_of e) t

  -- 01: lookup gives an id's record number or none
  unfoldable pub lookup_of : ℤ → Table → Found ℕ
  lookup_of id t = number_of key_of (rank_of id) (rows t)

-- the record of a number in a full table
abbrev pub row_at : ℕ → List ℕ → List ℕ
row_at number buffer = row full.width number buffer
