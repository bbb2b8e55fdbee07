-- 02: looking for a node's record from the high end, and how many ids are read for it.
use Rattle.std.specs.Prelude.{ℕ, suc, ◌+◌, Bool, true, ◌≡◌, List, [], ◌∷◌, map, reverse, ltb, ℤ, length}
use Rattle.std.specs.Int.Signed.{lt_z}
use Rattle.wing_node.specs.Bool.{if}
use Rattle.wing_node.specs.Signed.{InBits}
use Rattle.wing_wire.specs.Range.{AreBytes}
use Rattle.wing_mirror.specs.Rows.{Table}
use Rattle.wing_mirror.specs.Entry.{rank_of, ids}
use Rattle.wing_mirror.specs.Layout.{Layout}
use Rattle.wing_mirror.specs.Table.{every, rows, usable}
use Rattle.wing_mirror.specs.Lists.{filter}
use Rattle.wing_mirror.specs.Order.{position_of}
use Rattle.wing_mirror.specs.declared.order.Counted.{Counted}

-- 02: those above the one asked, and one more if any is not above it
unfoldable pub above_and_one : {A : Type 0} → (A → Bool) → List A → ℕ
above_and_one above xs = length (filter above xs) + if (every above xs) 0 1

module _ {A : Type 0} (key : A → ℕ) where
  -- how many keys are read, one after the other down to the first that is not above k, that one too
  unfoldable pub read_in_turn : ℕ → List A → ℕ
  read_in_turn k [] = 0
  read_in_turn k (x ∷ xs) = if (ltb k (key x)) (suc (read_in_turn k xs)) 1

  -- 02: how many keys a search reads that begins at the last one
  unfoldable pub reads : ℕ → List A → ℕ
  reads k xs = read_in_turn k (reverse xs)

-- place, finding and reads of a search
abbrev pub counted_of : (List ℕ → ℕ) → ℕ → List (List ℕ) → Counted
counted_of key k rs = record { position = position_of key k rs; reads = reads key k rs }

module _ (L : Layout) where
  open L use {key_of, entry_in}

  -- 02: in a usable table the search for an id's record reads the ids above the one asked, and one more if any is not above it; bytes are below 256
  -- and ids have 32 bits, as their types say
  abbrev pub SearchReads : Type 0
  SearchReads = (t : Table) (id : ℤ) → AreBytes t.buffer → InBits 31 id → usable L t ≡ true →
      (counted_of key_of (rank_of id) (rows L t)).reads ≡ above_and_one (λ (i : ℤ). lt_z id i) (ids (map entry_in (rows L t)))
