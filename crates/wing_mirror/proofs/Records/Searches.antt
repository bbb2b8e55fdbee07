-- The ids that the search for an id's record reads, as specs/HighEnd states it.
use Prim.Native.Nat.{ℕ}
use mathlib.Core.Path.{◌≡◌, sym, ◌∙◌, ap}
use mathlib.Core.List.{List, map-map}
use lib.Dec.{ltb}
use lib.IntN.{ℤ}
use lib.Signed.{lt_z}
use Rattle.wing_node.specs.Signed.{InBits}
use Rattle.wing_mirror.specs.Entry.{Entry, rank_of}
use Rattle.wing_mirror.specs.Layout.{Layout, Row, Lawful}
use Rattle.wing_mirror.specs.Table.{rows}
use Rattle.wing_mirror.specs.HighEnd.{above_and_one, SearchReads}
use Rattle.wing_mirror.proofs.Tables.HighEnd.{above_map, reads-above}
use Rattle.wing_mirror.proofs.Tables.Images.{all-also}
use Rattle.wing_mirror.proofs.Records.Ids.{rank_less}
use Rattle.wing_mirror.proofs.Records.Usables.{up}
use Rattle.wing_mirror.proofs.Records.Entries.{row-stands, each}

module _ {L : Layout} (laws : Lawful L) where
  open L use {key_of, entry_in}

  -- a record whose key is above that of an id has an id above it
  key_above : (id : ℤ) → InBits 31 id → (r : List ℕ) → Row L r → ltb (rank_of id) (key_of r) ≡ lt_z id (entry_in r).id
  key_above id i r g = ap (ltb (rank_of id)) (sym (row-stands laws r g)) ∙ rank_less id (entry_in r).id i (laws.valid r g).node

  pub search-reads : SearchReads L
  search-reads t id b i u =
      reads-above key_of (rank_of id) (rows L t) (up L t u)
      ∙ above_map (λ (r : List ℕ). ltb (rank_of id) (key_of r)) (λ (j : ℤ). lt_z id j) (λ (r : List ℕ). (entry_in r).id) (rows L t) (all-also (Row L) _ (rows L t) (key_above id i) (each laws t b u))
      ∙ ap (above_and_one (λ (j : ℤ). lt_z id j)) (sym (map-map (λ (e : Entry). e.id) entry_in (rows L t)))
