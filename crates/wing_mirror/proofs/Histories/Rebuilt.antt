-- The plain machine that is fed what recall writes, in any pieces, has the entries of the records, from the console.
use Prim.Native.Nat.{ℕ, ◌+◌, ◌≤◌, ◌<◌}
use mathlib.Core.Bool.{Bool, true, false}
use mathlib.Core.Path.{◌≡◌, refl, sym, ◌∙◌, ap}
use mathlib.Core.Logic.{inl, inr}
use mathlib.Core.List.{List, [], ◌∷◌, ◌++◌, map, append-nil, append_assoc}
use native.Mathlib.Omega.{arith}
use borrow.Author.Tests.{lt-ltb, le-ltb}
use lib.IntN.{ℤ}
use lib.ListN.{length, length-append}
use Rattle.wing_node.specs.Bool.{if}
use Rattle.wing_wire.specs.Reader.{Event, more, value, body, end, refused}
use Rattle.wing_wire.specs.State.{fresh_state}
use Rattle.wing_node.specs.Bytes.{joined}
use Rattle.wing_mirror.specs.Rows.{over, rising, In, All}
use Rattle.wing_mirror.specs.Entry.{Entry, entry, from_console}
use Rattle.wing_mirror.specs.Layout.{Keeping, kept, unkept, unless_kept, Layout, ValidEntry}
use Rattle.wing_mirror.specs.Table.{places_allowed}
use Rattle.wing_mirror.specs.Counts.{zero_counts}
use Rattle.wing_mirror.specs.Call.{feed, run_all}
use Rattle.wing_mirror.specs.Machine.{StreamEvent, same_id, has, put_in, room, Machine, new_machine, MapTally, map_tally, machine_event, machine_events, state_after, events, machine_step}
use Rattle.wing_mirror.specs.Recall.{set_of}
use Rattle.wing_mirror.specs.History.{rank, in_order, machine_run}
use Rattle.wing_mirror.specs.declared.counts.Mark.{Mark}
use Rattle.wing_mirror.specs.declared.origin.Origin.TheVariants.{Console}
use Rattle.wing_mirror.proofs.Tables.Ordered.{insert-front, rising-head, rising-tail}
use Rattle.wing_mirror.proofs.Tables.Members.{above}
use Rattle.wing_mirror.proofs.Records.Ids.{same_id_lem}
use Rattle.wing_mirror.proofs.Histories.Along.{fold_events}
use Rattle.wing_mirror.proofs.Histories.Recalls.{events-pieces, entry_event, recall-events}
use Rattle.wing_node.specs.declared.refusal.Refusal.{Refusal}

-- events handed on in two lists
fold-append : {M : Type 0} (h : ℤ → Event → M → M) (xs ys : List StreamEvent) (m : M) → fold_events h (xs ++ ys) m ≡ fold_events h ys (fold_events h xs m)
unfolding fold_events
fold-append h [] ys m = refl
fold-append h (x ∷ xs) ys m = fold-append h xs ys (h x.node x.event m)

-- the last of a list is in it
in-last : {A : Type 0} (e : A) (xs ys : List A) → In e (xs ++ (e ∷ ys))
in-last e [] ys = inl refl
in-last e (x ∷ xs) ys = inr (in-last e xs ys)

-- a node that stands before all of a map is not in it
has-not : (e : Entry) (m es : List Entry) → rising rank (m ++ (e ∷ es)) ≡ true → has e.id m ≡ false
unfolding has
has-not e [] es r = refl
has-not e (x ∷ m) es r =
    let l : rank x < rank e = above rank (rank x) e (m ++ (e ∷ es)) (rising-head rank x _ r) (rising-tail rank x _ r) (in-last e m es) in
    go (same_id x.id e.id) refl l (has-not e m es (rising-tail rank x _ r))
  where
    go : (t : Bool) → same_id x.id e.id ≡ t → rank x < rank e → has e.id m ≡ false → if t true (has e.id m) ≡ false
    go true q l ih = let z : rank x ≡ rank e = ap (λ (i : ℤ). rank (entry i e.value e.origin)) (same_id_lem x.id e.id q) in absurd (omega arith)
    go false q l ih = ih

-- a new node's entry goes to the end
put_last : (e : Entry) (m : List Entry) → has e.id m ≡ false → put_in e m ≡ m ++ (e ∷ [])
unfolding put_in has
put_last e [] h = refl
put_last e (x ∷ m) h = go (same_id x.id e.id) refl (put_last e m)
  where
    go : (t : Bool) → same_id x.id e.id ≡ t → (has e.id m ≡ false → put_in e m ≡ m ++ (e ∷ [])) → put_in e (x ∷ m) ≡ x ∷ (m ++ (e ∷ []))
    go true q ih = let z : ◌≡◌ {A = Bool} true false = rw q at h in absurd (let w : ◌≡◌ {A = ℕ} 0 1 = cc in omega arith)
    go false q ih = rw q (ap (λ (l : List Entry). x ∷ l) (ih (rw q at h)))

-- entries that rise are in order
pub order-own : (es : List Entry) → rising rank es ≡ true → in_order es ≡ es
unfolding in_order
order-own [] r = refl
order-own (e ∷ es) r = rw (order-own es (rising-tail rank e es r)) (insert-front rank e es (rising-head rank e es r))

-- the order does not look at origins
pub console-rises : (es : List Entry) → rising rank es ≡ true → rising rank (map from_console es) ≡ true
unfolding rising over
console-rises [] r = refl
console-rises (e ∷ []) r = refl
console-rises (e ∷ f ∷ es) r = rw (rising-head rank e (f ∷ es) r) (console-rises (f ∷ es) (rising-tail rank e (f ∷ es) r))

module _ (L : Layout) (places : ℕ) where
  open L use {keeping}

  -- what an event makes of the map alone
  unfoldable map_event : ℤ → Event → List Entry → List Entry
  map_event node more m = m
  map_event node (value v) m = unless_kept (keeping v) (λ mark why. m) (if (room places node m) (put_in (entry node v Console) m) m)
  map_event node (body b) m = m
  map_event node end m = m
  map_event node (refused n) m = m

  kept_map : (k : Keeping) (t : Bool) (f : Mark → Refusal → MapTally) (x y : MapTally) → (unless_kept k f (if t x y)).map ≡ unless_kept k (λ mark why. (f mark why).map) (if t x.map y.map)
  kept_map (unkept mark why) t f x y = refl
  kept_map kept true f x y = refl
  kept_map kept false f x y = refl

  machine-event-map : (node : ℤ) (e : Event) (h : MapTally) → (machine_event keeping places node e h).map ≡ map_event node e h.map
  unfolding machine_event map_event
  machine-event-map node more h = refl
  machine-event-map node (value v) h = kept_map (keeping v) (room places node h.map) _ _ _
  machine-event-map node (body b) h = refl
  machine-event-map node end h = refl
  machine-event-map node (refused n) h = refl

  machine-events-map : (rs : List StreamEvent) (h : MapTally) → (machine_events keeping places rs h).map ≡ fold_events map_event rs h.map
  unfolding machine_events fold_events
  machine-events-map [] h = refl
  machine-events-map (r ∷ rs) h = machine-events-map rs (machine_event keeping places r.node r.event h) ∙ ap (fold_events map_event rs) (machine-event-map r.node r.event h)

  -- the machine after an accepted feed
  abbrev fed_to : Machine → List ℕ → Machine
  fed_to s p = record { decoder = state_after s.decoder p; map = fold_events map_event (events s.decoder p) s.map }

  one-feed : places_allowed places ≡ true → (s : Machine) (p : List ℕ) → length p ≤ 65536 → (machine_step keeping places s (feed p)).state ≡ fed_to s p
  unfolding machine_step
  one-feed r s p a =
      rw (r, le-ltb 65536 (length p) a)
      (ap (λ (m : List Entry). record { decoder = state_after s.decoder p; map = m }) (machine-events-map (events s.decoder p) (map_tally s.map zero_counts)))

  -- feeds in a row are one feed of their bytes joined
  feeds : places_allowed places ≡ true → (s : Machine) (p : List ℕ) (ps : List (List ℕ)) → All (λ (q : List ℕ). length q ≤ 65536) (p ∷ ps) →
      (run_all (machine_step keeping places) s (map feed (p ∷ ps))).state.map ≡ fold_events map_event (events s.decoder (joined (p ∷ ps))) s.map
  unfolding run_all joined
  feeds r s p [] a = ap (λ (x : Machine). x.map) (one-feed r s p a.0) ∙ rw (append-nil p)
  feeds r s p (q ∷ ps) a =
      ap (λ (x : Machine). (run_all (machine_step keeping places) x (map feed (q ∷ ps))).state.map) (one-feed r s p a.0)
      ∙ feeds r (fed_to s p) q ps a.1
      ∙ sym (ap (λ (rs : List StreamEvent). fold_events map_event rs s.map) (events-pieces s.decoder p (joined (q ∷ ps))) ∙ fold-append map_event (events s.decoder p) _ s.map)

  map-event-new : (e : Entry) (m : List Entry) → keeping e.value ≡ kept → has e.id m ≡ false → length m < places → map_event e.id (value e.value) m ≡ m ++ (from_console e ∷ [])
  unfolding map_event room
  map-event-new e m k h l = rw (k, h, lt-ltb (length m) places l) (put_last (from_console e) m h)

  -- rising entries, put into the map one after the other, come from the console
  map-events : (es m : List Entry) → All (ValidEntry L) es → rising rank (m ++ map from_console es) ≡ true → length m + length es ≤ places →
      fold_events map_event (map entry_event es) m ≡ m ++ map from_console es
  unfolding fold_events
  map-events [] m p r l = sym (append-nil m)
  map-events (e ∷ es) m p r l =
      let last : List Entry = from_console e ∷ [] in
      let n = length-append m last in
      ap (fold_events map_event (map entry_event es)) (map-event-new e m p.0.is_kept (has-not (from_console e) m (map from_console es) r) (omega arith))
      ∙ map-events es (m ++ last) p.1 (rw (append_assoc m last (map from_console es)) r) (omega arith) ∙ append_assoc m last (map from_console es)

  -- the machine that is fed it, in any pieces
  pub map-rebuilt : (es : List Entry) → All (ValidEntry L) es → rising rank es ≡ true → length es ≤ places → places_allowed places ≡ true →
      (pieces : List (List ℕ)) → All (λ (q : List ℕ). length q ≤ 65536) pieces → joined pieces ≡ 0xdf ∷ 0xd1 ∷ joined (map set_of es) →
      (machine_run L places (map feed pieces)).state.map ≡ map from_console es
  unfolding joined
  map-rebuilt es p r l n [] a q = cc
  map-rebuilt es p r l n (x ∷ xs) a q =
      feeds n new_machine x xs a
      ∙ ap (λ (bytes : List ℕ). fold_events map_event (events fresh_state bytes) []) q
      ∙ ap (λ (rs : List StreamEvent). fold_events map_event rs []) (recall-events L es p)
      ∙ map-events es [] p (console-rises es r) (omega arith)
