-- A usable table is the image of what its own records say, so that a history may start at any usable table.
use Prim.Native.Nat.{ℕ}
use mathlib.Core.Bool.{true}
use mathlib.Core.Path.{◌≡◌, sym, ◌∙◌, ap, ap₂}
use mathlib.Core.List.{List, map}
use native.Mathlib.Omega.{arith}
use lib.ListN.{length, length-map}
use Rattle.wing_wire.specs.Range.{AreBytes}
use Rattle.wing_mirror.specs.Rows.{Table, laid, All}
use Rattle.wing_mirror.specs.Entry.{Entry}
use Rattle.wing_mirror.specs.Layout.{Layout, Lawful}
use Rattle.wing_mirror.specs.Table.{table, rows, usable}
use Rattle.wing_mirror.specs.Call.{Call, History, run_all, TypedCall}
use Rattle.wing_mirror.specs.Machine.{Machine, machine_step}
use Rattle.wing_mirror.specs.History.{Mirror, in_order, mirror_step, places_in, Agree}
use Rattle.wing_mirror.proofs.Tables.Chunks.{length-records, laid-own}
use Rattle.wing_mirror.proofs.Records.Usables.{few}
use Rattle.wing_mirror.proofs.Records.Entries.{rows-valid, rows_back, rows-rise}
use Rattle.wing_mirror.proofs.Histories.Maps.{ValidMap}
use Rattle.wing_mirror.proofs.Histories.Mirrored.{recs, table_of}
use Rattle.wing_mirror.proofs.Histories.Decodes.{ValidState}
use Rattle.wing_mirror.proofs.Histories.Invariant.{Invariant, invariant-run}
use Rattle.wing_mirror.proofs.Histories.Simulates.{image_run, run-image}
use Rattle.wing_mirror.proofs.Histories.Agrees.{image-agrees}
use Rattle.wing_mirror.proofs.Histories.Rebuilt.{order-own}

-- what a table's records say
abbrev pub entries_in : Layout → Table → List Entry
entries_in L t = map L.entry_in (rows L t)

-- the plain machine that stands where a mirror does
abbrev pub machine_in : Layout → Mirror → Machine
machine_in L m = record { decoder = m.decoder; map = entries_in L m.table }

-- its run from there
abbrev pub machine_from : Layout → Mirror → List Call → History Machine
machine_from L m calls = run_all (machine_step L.keeping (places_in L m.table.buffer)) (machine_in L m) calls

module _ {L : Layout} (laws : Lawful L) (t : Table) (b : AreBytes t.buffer) (u : usable L t ≡ true) where
  open L use {width, record_of, entry_in}

  -- they are in order already
  own-order : in_order (entries_in L t) ≡ entries_in L t
  own-order = order-own (entries_in L t) (rows-rise laws t b u)

  own-count : length (entries_in L t) ≡ t.count
  own-count = length-map (rows L t) entry_in ∙ length-records width t.count t.buffer

  -- they are a valid map
  pub own-valid : ValidMap L (places_in L t.buffer) (entries_in L t)
  own-valid = record { few = omega (arith, own-count, few L t u); apart = ap length own-order; valid = rows-valid laws t b u }

  own-records : recs L (entries_in L t) ≡ rows L t
  own-records = ap (map record_of) own-order ∙ rows_back laws t b u

  -- and the table is their image
  pub own-image : table_of L t.buffer (entries_in L t) ≡ t
  own-image = ap₂ table (ap (λ (rs : List (List ℕ)). laid width rs t.buffer) own-records ∙ laid-own width t.count t.buffer) own-count

-- from any usable table and valid state
module _ {L : Layout} (laws : Lawful L) (m : Mirror) (s : ValidState m.decoder) (b : AreBytes m.table.buffer) (u : usable L m.table ≡ true)
    (calls : List Call) (t : All TypedCall calls) where
  starts : Invariant L (places_in L m.table.buffer) (machine_in L m)
  starts = record { decoder = s; map = own-valid laws m.table b u }

  -- the mirror's run is the image of it
  pub run-from : run_all (mirror_step L) m calls ≡ image_run L m.table.buffer (machine_from L m calls)
  run-from =
      ap (λ (x : Table). run_all (mirror_step L) (record { decoder = m.decoder; table = x }) calls) (sym (own-image laws m.table b u))
      ∙ run-image laws m.table.buffer (machine_in L m) calls t starts

  -- and agrees with it
  pub agrees_from : Agree L m.table.buffer (run_all (mirror_step L) m calls) (machine_from L m calls)
  agrees_from = rw run-from (image-agrees laws m.table.buffer (machine_from L m calls) (invariant-run L (places_in L m.table.buffer) (machine_in L m) calls t starts).map)
