-- What the machine makes of an event, the mirror keeps: the table stays the image of the map, and the counts are the same.
use Prim.Native.Nat.{ℕ}
use mathlib.Core.Bool.{Bool, true, false}
use mathlib.Core.Path.{◌≡◌, refl, ◌∙◌, ap}
use mathlib.Core.List.{List, [], ◌∷◌}
use lib.IntN.{ℤ}
use Rattle.wing_node.proofs.Branches.{branch}
use Rattle.wing_wire.specs.Reader.{Event, more, value, body, end, refused}
use Rattle.wing_mirror.specs.Rows.{All}
use Rattle.wing_mirror.specs.Entry.{entry}
use Rattle.wing_mirror.specs.Layout.{Keeping, kept, unkept, Layout, Lawful}
use Rattle.wing_mirror.specs.Mirror.{TableTally, table_tally, keep_event}
use Rattle.wing_mirror.specs.Machine.{StreamEvent, room, MapTally, machine_event, machine_events}
use Rattle.wing_mirror.specs.History.{places_in}
use Rattle.wing_mirror.specs.declared.origin.Origin.TheVariants.{Console}
use Rattle.wing_mirror.proofs.Records.Choices.{keeping-cases}
use Rattle.wing_mirror.proofs.Histories.Along.{fold_events}
use Rattle.wing_mirror.proofs.Histories.Maps.{ValidMap, valid-put}
use Rattle.wing_mirror.proofs.Histories.Mirrored.{table_of, fits-image, put-image}
use Rattle.wing_mirror.proofs.Histories.Decodes.{ValidEvent, ValidStreamEvent}

module _ (L : Layout) (places : ℕ) where
  open L use {keeping}

  -- one event leaves a valid map valid
  pub machine-event-valid : (node : ℤ) (e : Event) (h : MapTally) → ValidEvent L node e → ValidMap L places h.map → ValidMap L places (machine_event keeping places node e h).map
  unfolding machine_event
  machine-event-valid node more h p g = g
  machine-event-valid node (value v) h p g =
      keeping-cases P (keeping v) _ _ (λ mark why. g)
      (λ k. branch P (room places node h.map) _ _ (λ q. valid-put places (entry node v Console) h.map g (p k) q) (λ _. g))
    where
      P : MapTally → Type 0
      P x = ValidMap L places x.map
  machine-event-valid node (body b) h p g = g
  machine-event-valid node end h p g = g
  machine-event-valid node (refused n) h p g = g

  -- after all events too
  pub machine-events-valid : (rs : List StreamEvent) (h : MapTally) → All (ValidStreamEvent L) rs → ValidMap L places h.map → ValidMap L places (machine_events keeping places rs h).map
  unfolding machine_events
  machine-events-valid [] h p g = g
  machine-events-valid (r ∷ rs) h p g =
      machine-events-valid rs (machine_event keeping places r.node r.event h) p.1 (machine-event-valid r.node r.event h p.0 g)

-- the image of a map with counts
abbrev pub table_tally_of : Layout → List ℕ → MapTally → TableTally
table_tally_of L buffer h = table_tally (table_of L buffer h.map) h.counts

module _ {L : Layout} (laws : Lawful L) (buffer : List ℕ) where
  open L use {keeping}

  -- one event
  keep-image : (node : ℤ) (e : Event) (h : MapTally) → ValidEvent L node e → ValidMap L (places_in L buffer) h.map →
      keep_event L node e (table_tally_of L buffer h) ≡ table_tally_of L buffer (machine_event keeping (places_in L buffer) node e h)
  unfolding keep_event machine_event
  keep-image node more h p g = refl
  keep-image node (value v) h p g = go (keeping v) refl (room (places_in L buffer) node h.map) refl
    where
      go : (k : Keeping) → keeping v ≡ k → (t : Bool) → room (places_in L buffer) node h.map ≡ t →
          keep_event L node (value v) (table_tally_of L buffer h) ≡ table_tally_of L buffer (machine_event keeping (places_in L buffer) node (value v) h)
      go (unkept mark why) k t q = rw k
      go kept k true q = rw (k, fits-image laws buffer h.map g (entry node v Console) (p k), q, put-image laws buffer h.map g (entry node v Console) (p k))
      go kept k false q = rw (k, fits-image laws buffer h.map g (entry node v Console) (p k), q)
  keep-image node (body b) h p g = refl
  keep-image node end h p g = refl
  keep-image node (refused n) h p g = refl

  -- all events
  pub keep-all-image : (rs : List StreamEvent) (h : MapTally) → All (ValidStreamEvent L) rs → ValidMap L (places_in L buffer) h.map →
      fold_events (keep_event L) rs (table_tally_of L buffer h) ≡ table_tally_of L buffer (machine_events keeping (places_in L buffer) rs h)
  unfolding fold_events machine_events
  keep-all-image [] h p g = refl
  keep-all-image (r ∷ rs) h p g =
      ap (fold_events (keep_event L) rs) (keep-image r.node r.event h p.0 g)
      ∙ keep-all-image rs (machine_event keeping (places_in L buffer) r.node r.event h) p.1 (machine-event-valid L (places_in L buffer) r.node r.event h p.0 g)
