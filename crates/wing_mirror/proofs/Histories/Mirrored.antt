-- A machine's map laid into a buffer as a table: what the table answers is what the map does.
use Prim.Native.Nat.{ℕ, ◌*◌, ◌≤◌}
use mathlib.Core.Bool.{Bool, true, false}
use mathlib.Core.Path.{◌≡◌, refl, sym, ◌∙◌, ap}
use mathlib.Core.List.{List, [], ◌∷◌, map}
use native.Mathlib.Omega.{arith}
use native.Mathlib.Nat.{mul-div-le, mul-le-mul_left}
use borrow.Author.Tests.{le-leb}
use lib.ListN.{length, drop, length-map}
use Rattle.wing_node.specs.Bool.{if}
use Rattle.wing_mirror.specs.Rows.{Table, records, laid, holds, insert, takes, store, All}
use Rattle.wing_mirror.specs.Entry.{Entry}
use Rattle.wing_mirror.specs.Layout.{Layout, ValidEntry, Lawful}
use Rattle.wing_mirror.specs.Table.{table, rows, checked_of, checked, sound_of, usable_of, places_allowed, usable, put, fits}
use Rattle.wing_mirror.specs.Machine.{has, put_in, room}
use Rattle.wing_mirror.specs.History.{rank, in_order, places_in}
use Rattle.wing_mirror.proofs.Tables.Chunks.{Wide, records-laid, length-laid, drop-laid, laid-again}
use Rattle.wing_mirror.proofs.Tables.Images.{Stands, holds-map, rising-map, insert-map, all_map, all-also, every-all}
use Rattle.wing_mirror.proofs.Histories.Maps.{has-holds, put_order, order-rising, put-grows, all-order, ValidMap, apart-put}

module _ (L : Layout) where
  open L use {width, record_of}

  -- the records of a map
  abbrev pub recs : List Entry → List (List ℕ)
  recs m = map record_of (in_order m)

  -- the map in the buffer, whose other bytes are as they were at first
  abbrev pub table_of : List ℕ → List Entry → Table
  table_of buffer m = table (laid width (recs m) buffer) (length m)

module _ {L : Layout} (laws : Lawful L) where
  open L use {width, key_of, record_of, entry_in, well_formed}

  module _ (places : ℕ) (m : List Entry) (g : ValidMap L places m) where
    -- each record stands where its entry does
    stands : All (Stands key_of rank record_of) (in_order m)
    stands = all-also (ValidEntry L) (Stands key_of rank record_of) (in_order m) (λ e p. laws.placed e p.node) (all-order (ValidEntry L) m g.valid)

    -- as many records as entries
    pub length-recs : length (recs L m) ≡ length m
    length-recs = length-map (in_order m) record_of ∙ g.apart

    -- each record has the width
    pub wide : Wide width (recs L m)
    wide = all_map record_of (ValidEntry L) (λ (r : List ℕ). length r ≡ width) (in_order m) (λ e p. laws.wide e) (all-order (ValidEntry L) m g.valid)

    -- the records say the entries
    pub recs-back : map entry_in (recs L m) ≡ in_order m
    recs-back = go (in_order m) (all-order (ValidEntry L) m g.valid)
      where
        go : (es : List Entry) → All (ValidEntry L) es → map entry_in (map record_of es) ≡ es
        go [] a = refl
        go (e ∷ es) a = rw (laws.said e a.0, go es a.1)

    -- the records have the form and order
    recs-checked : checked L (recs L m) ≡ true
    unfolding checked_of
    recs-checked =
        rw (
          every-all well_formed (recs L m) (all_map record_of (ValidEntry L) (λ (r : List ℕ). well_formed r ≡ true) (in_order m) (λ e p. laws.formed e p.text p.is_kept) (all-order (ValidEntry L) m g.valid)),
          rising-map key_of rank record_of (in_order m) stands,
          order-rising m,
        )

    -- a record with its id is there exactly if the node is in the map
    pub holds-recs : (e : Entry) → ValidEntry L e → holds key_of (key_of (record_of e)) (recs L m) ≡ has e.id m
    holds-recs e p =
        ap (λ (k : ℕ). holds key_of k (recs L m)) (laws.placed e p.node) ∙ holds-map key_of rank record_of (rank e) (in_order m) stands ∙ sym (has-holds e m p g.valid)

    -- a record put in its place is an entry put into the map
    pub insert-recs : (e : Entry) → ValidEntry L e → insert key_of (record_of e) (recs L m) ≡ recs L (put_in e m)
    insert-recs e p =
        sym (insert-map key_of rank record_of e (in_order m) (laws.placed e p.node) stands) ∙ ap (map record_of) (sym (put_order e m p g.valid))

  module _ (buffer : List ℕ) (m : List Entry) (g : ValidMap L (places_in L buffer) m) where
    -- the records that stand in the buffer
    pub rows-image : rows L (table_of L buffer m) ≡ recs L m
    unfolding laid
    rows-image =
        ap (λ (n : ℕ). records width n (laid width (recs L m) buffer)) (sym (length-recs (places_in L buffer) m g)) ∙ records-laid width (recs L m) _ (wide (places_in L buffer) m g)

    -- the buffer's length stays
    pub size-image : length (table_of L buffer m).buffer ≡ length buffer
    size-image =
        length-laid width (recs L m) buffer (wide (places_in L buffer) m g)
        (rw (length-recs (places_in L buffer) m g) (omega (arith, mul-le-mul_left width g.few, mul-div-le (length buffer) width)))

    -- the bytes after the last record are as they were at first
    pub rest-image : drop (width * length m) (table_of L buffer m).buffer ≡ drop (width * length m) buffer
    rest-image = drop-laid width (recs L m) buffer (width * length m) (wide (places_in L buffer) m g) (rw (length-recs (places_in L buffer) m g) (omega arith))

    -- 7 by the places alone
    pub usable-image : usable L (table_of L buffer m) ≡ places_allowed (places_in L buffer)
    unfolding usable_of sound_of
    usable-image =
        rw (size-image, le-leb (length m) (places_in L buffer) g.few, rows-image, recs-checked (places_in L buffer) m g) (go (places_allowed (places_in L buffer)))
      where
        go : (t : Bool) → if t true false ≡ t
        go true = refl
        go false = refl

    -- 6 by the map
    pub fits-image : (e : Entry) → ValidEntry L e → fits L e (table_of L buffer m) ≡ room (places_in L buffer) e.id m
    unfolding fits takes room
    fits-image e p = rw (rows-image, size-image, holds-recs (places_in L buffer) m g e p)

    -- a put into the table is a put into the map
    pub put-image : (e : Entry) → ValidEntry L e → put L e (table_of L buffer m) ≡ table_of L buffer (put_in e m)
    unfolding put store
    put-image e p =
        let n : length (recs L (put_in e m)) ≡ length (put_in e m) = length-map (in_order (put_in e m)) record_of ∙ apart-put (places_in L buffer) e m g p in
        let l : length (recs L m) ≤ length (recs L (put_in e m)) = omega (arith, length-recs (places_in L buffer) m g, put-grows e m) in
        rw (rows-image, insert-recs (places_in L buffer) m g e p, laid-again width (recs L m) (recs L (put_in e m)) buffer (wide (places_in L buffer) m g) l)
        (ap (table (laid width (recs L (put_in e m)) buffer)) n)
