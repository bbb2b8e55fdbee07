-- Demand 3, as specs/History states it.
use Prim.Native.Nat.{ℕ}
use mathlib.Core.Bool.{Bool, true, false}
use mathlib.Core.Path.{◌≡◌, refl, sym, ◌∙◌, ap}
use mathlib.Core.List.{List, [], ◌∷◌, ◌++◌, map}
use native.Mathlib.Omega.{arith}
use lib.Dec.{ltb}
use lib.ListN.{length, take, drop, length-map}
use lib.Seq.{take-append_seam}
use Rattle.wing_node.specs.Bool.{if}
use Rattle.wing_wire.specs.Write.{WriteEffect, write_effect, write_of}
use Rattle.wing_mirror.specs.Rows.{Table, All, rising}
use Rattle.wing_mirror.specs.Entry.{Entry, from_console}
use Rattle.wing_mirror.specs.Layout.{Layout, ValidEntry, Lawful, origin_cleared}
use Rattle.wing_mirror.specs.Table.{rows, usable}
use Rattle.wing_mirror.specs.Call.{feed}
use Rattle.wing_mirror.specs.Recall.{recall_bytes, recall_of}
use Rattle.wing_mirror.specs.History.{rank, in_order, new_mirror, mirror_run, machine_run, places_in, RebuiltBy, Rebuilding, RebuildingTables, Histories}
use Rattle.wing_mirror.proofs.Tables.Chunks.{length-records}
use Rattle.wing_mirror.proofs.Histories.Maps.{all-order, order-rising}
use Rattle.wing_mirror.proofs.Records.Entries.{rows-valid, rows_back, rows-rise, rows-signed}
use Rattle.wing_mirror.proofs.Histories.Rebuilt.{order-own, console-rises, map-rebuilt}
use Rattle.wing_mirror.proofs.Histories.Agrees.{map-valid, run-agrees, run-order, run-equal}
use Rattle.wing_mirror.proofs.Histories.Answers.{comparing, recalling}
use Rattle.wing_mirror.proofs.Histories.Bounds.{run-bounded}
use Rattle.wing_node.specs.declared.refusal.Refusal.TheVariants.{OutputShort, TableUnsound}
use Rattle.std.specs.Prelude.{Ok, Err}

module _ {L : Layout} (laws : Lawful L) where
  open L use {width, record_of, entry_in}

  -- a recall that says that n bytes were written was of a usable table, and these are its bytes
  recall-wrote : (t : Table) (out : List ℕ) (n : ℕ) → (recall_of L t out).answer ≡ Ok n → (usable L t ≡ true) × (take n (recall_of L t out).out ≡ recall_bytes L t)
  unfolding recall_of write_of
  recall-wrote t out n = go (usable L t) refl (ltb (length out) (length (recall_bytes L t)))
    where
      bytes : List ℕ
      bytes = recall_bytes L t

      go : (u : Bool) → usable L t ≡ u → (s : Bool) → let x : WriteEffect = if u (if s (write_effect (Err OutputShort) out) (write_effect (Ok (length bytes)) (bytes ++ drop (length bytes) out))) (write_effect (Err TableUnsound) out) in
          x.answer ≡ Ok n → (u ≡ true) × (take n x.out ≡ bytes)
      go true q true e = absurd (let z : ◌≡◌ {A = ℕ} 0 1 = cc in omega arith)
      go true q false e = let k : length bytes ≡ n = cc in (refl, rw (← k) (take-append_seam bytes (drop (length bytes) out)))
      go false q s e = absurd (let z : ◌≡◌ {A = ℕ} 0 1 = cc in omega arith)

  -- records with their origins cleared are those of the same entries from the console
  pub clear-all : (es : List Entry) → map (origin_cleared L) (map record_of es) ≡ map record_of (map from_console es)
  clear-all [] = refl
  clear-all (e ∷ es) = rw (laws.cleared e, clear-all es)

  -- a table whose records say valid entries in rising order, and are the records of these
  module _ (t : Table) (valid : All (ValidEntry L) (map entry_in (rows L t))) (up : rising rank (map entry_in (rows L t)) ≡ true) (back : map record_of (map entry_in (rows L t)) ≡ rows L t) where
    rebuilds : RebuiltBy L (recall_bytes L t) t
    unfolding recall_bytes
    rebuilds buffer n l pieces typed short q =
        let es : List Entry = map entry_in (rows L t) in
        let k : length es ≡ t.count = length-map (rows L t) entry_in ∙ length-records width t.count t.buffer in
        let m = map-rebuilt L (places_in L buffer) es valid up (omega arith) n pieces short q in
        let g = run-agrees laws buffer (map feed pieces) typed in
        record {
          counts = g.counts ∙ ap length m ∙ length-map es from_console ∙ k;
          records =
              g.records ∙ ap (λ (x : List Entry). map record_of (in_order x)) m ∙ ap (map record_of) (order-own (map from_console es) (console-rises es up))
              ∙ sym (clear-all es) ∙ ap (map (origin_cleared L)) back;
        }

  -- of any table
  rebuilding-tables : RebuildingTables L
  rebuilding-tables t b out n e =
      let w = recall-wrote t out n e in
      rw w.1 (rebuilds t (rows-valid laws t b w.0) (rows-rise laws t b w.0) (rows_back laws t b w.0))

  -- of any mirror after any history
  rebuilding : Rebuilding L
  rebuilding b calls typed out n e =
      let g = run-agrees laws b calls typed in
      let t : Table = (mirror_run L b calls).state.table in
      let m : List Entry = (machine_run L (places_in L b) calls).state.map in
      let f = map-valid L (places_in L b) calls typed in
      rw (recall-wrote t out n e).1
      (rebuilds t (rw g.entries (all-order (ValidEntry L) m f.valid)) (rw g.entries (order-rising m)) (ap (map record_of) g.entries ∙ sym g.records))

  pub histories : Histories L
  histories =
      record {
        agreement = run-agrees laws;
        order = run-order laws;
        signed = rows-signed laws;
        equality = run-equal laws;
        comparing = comparing laws;
        recalling = recalling laws;
        rebuilding = rebuilding;
        tables = rebuilding-tables;
        bounds = λ buffer calls typed. run-bounded L (new_mirror buffer) calls;
      }
