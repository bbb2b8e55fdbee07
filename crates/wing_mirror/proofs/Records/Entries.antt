-- What the records of a usable table say: valid entries, whose records they are, in the same order.
use Prim.Native.Nat.{ℕ, zero, suc, ◌*◌, ◌≤◌}
use mathlib.Core.Bool.{true}
use mathlib.Core.Path.{◌≡◌, refl, sym, ◌∙◌, ap, ap₂}
use mathlib.Core.List.{List, [], ◌∷◌, map}
use native.Mathlib.Omega.{arith}
use native.Mathlib.Nat.{mul-suc}
use borrow.Author.Tests.{le-leb}
use lib.ListN.{length, take, drop, length-drop}
use lib.Seq.{length-take-le}
use Rattle.wing_node.specs.Signed.{InBits}
use Rattle.wing_node.proofs.Branches.{if-both}
use Rattle.wing_wire.specs.Range.{AreBytes, no_bytes, byte_then}
use Rattle.wing_mirror.specs.Rows.{Table, places, records, rising, All}
use Rattle.wing_mirror.specs.Entry.{Entry, rising_ids, ids}
use Rattle.wing_mirror.specs.Layout.{Layout, ValidEntry, Row, Lawful}
use Rattle.wing_mirror.specs.Table.{rows, every, checked_of, sound_of, sound_table, usable}
use Rattle.wing_mirror.specs.History.{rank}
use Rattle.wing_mirror.proofs.Tables.Images.{Stands, rising-map, all_map, all-also}
use Rattle.wing_mirror.proofs.Records.Ids.{rising-ids}
use Rattle.wing_mirror.proofs.Records.Usables.{few-room, room, formed, up}

-- the first of some bytes, and the others, are bytes
bytes_take : (n : ℕ) (s : List ℕ) → AreBytes s → AreBytes (take n s)
bytes_take zero s h = no_bytes
bytes_take (suc n) [] h = no_bytes
bytes_take (suc n) (b ∷ s) (byte_then h hs) = byte_then h (bytes_take n s hs)

bytes_drop : (n : ℕ) (s : List ℕ) → AreBytes s → AreBytes (drop n s)
bytes_drop zero s h = h
bytes_drop (suc n) [] h = no_bytes
bytes_drop (suc n) (b ∷ s) (byte_then h hs) = bytes_drop n s hs

module _ {L : Layout} (laws : Lawful L) where
  open L use {width, key_of, record_of, entry_in, well_formed}

  -- what a record says stands where it does
  pub row-stands : (r : List ℕ) → Row L r → Stands rank key_of entry_in r
  row-stands r g = sym (laws.placed (entry_in r) (laws.valid r g).node) ∙ ap key_of (laws.back r g)

  -- all rows of a usable table
  all-rows : (n : ℕ) (buffer : List ℕ) → width * n ≤ length buffer → AreBytes buffer → every well_formed (records width n buffer) ≡ true → All (Row L) (records width n buffer)
  unfolding records every
  all-rows zero buffer h b e = tt
  all-rows (suc n) buffer h b e =
      let m = mul-suc width n in
      let f = if-both (well_formed (take width buffer)) (every well_formed (records width n (drop width buffer))) e in (
        record { wide = length-take-le width buffer (omega arith); bytes = bytes_take width buffer b; form = f.0 },
        all-rows n (drop width buffer) (omega (arith, length-drop width buffer)) (bytes_drop width buffer b) f.1,
      )

  entries-valid : (rs : List (List ℕ)) → All (Row L) rs → All (ValidEntry L) (map entry_in rs)
  entries-valid rs = all_map entry_in (Row L) (ValidEntry L) rs laws.valid

  entries-stand : (rs : List (List ℕ)) → All (Row L) rs → All (Stands rank key_of entry_in) rs
  entries-stand rs = all-also (Row L) (Stands rank key_of entry_in) rs row-stands

  records-same : (rs : List (List ℕ)) → All (Row L) rs → map record_of (map entry_in rs) ≡ rs
  records-same [] a = refl
  records-same (r ∷ rs) a = ap₂ {C = List (List ℕ)} (λ x l. x ∷ l) (laws.back r a.0) (records-same rs a.1)

  module _ (t : Table) (b : AreBytes t.buffer) (u : usable L t ≡ true) where
    -- each of its records
    pub each : All (Row L) (rows L t)
    each = all-rows t.count t.buffer (room L t u) b (formed L t u)

    pub rows-valid : All (ValidEntry L) (map entry_in (rows L t))
    rows-valid = entries-valid (rows L t) each

    pub rows_back : map record_of (map entry_in (rows L t)) ≡ rows L t
    rows_back = records-same (rows L t) each

    pub rows-rise : rising rank (map entry_in (rows L t)) ≡ true
    rows-rise = rising-map rank key_of entry_in (rows L t) (entries-stand (rows L t) each) ∙ up L t u

  -- where the records are there and have the form, a table is sound exactly if their signed ids rise
  pub rows-signed : (t : Table) → AreBytes t.buffer → t.count ≤ places width t → every well_formed (rows L t) ≡ true → sound_table L t ≡ rising_ids (ids (map entry_in (rows L t)))
  unfolding sound_of checked_of
  rows-signed t b h e =
      let es : List Entry = map entry_in (rows L t) in
      let each : All (Row L) (rows L t) = all-rows t.count t.buffer (few-room L t h) b e in
      let stand = rising-map rank key_of entry_in (rows L t) (entries-stand (rows L t) each) in
      rw (le-leb t.count (places width t) h, e)
      (sym stand ∙ rising-ids es (all-also (ValidEntry L) (λ (x : Entry). InBits 31 x.id) es (λ x p. p.node) (entries-valid (rows L t) each)))
