-- Who set it, as specs/Origins states it: a usable table is the image of what its records say, and a put or an event on the one is that on the other.
use Prim.Native.Nat.{ℕ}
use mathlib.Core.Bool.{true, not}
use mathlib.Core.Path.{◌≡◌, refl, sym, ◌∙◌, ap, subst}
use mathlib.Core.Logic.{inl, inr, ◌↔◌}
use mathlib.Core.List.{List, map}
use native.Mathlib.Omega.{arith}
use lib.Dec.{leb}
use lib.IntN.{ℤ}
use lib.ListN.{length}
use Rattle.wing_node.specs.Value.{NodeValue}
use Rattle.wing_node.proofs.Branches.{branch}
use Rattle.wing_wire.specs.State.{sound_state}
use Rattle.wing_wire.specs.Range.{AreBytes, InRange}
use Rattle.wing_wire.specs.declared.state.State.{State}
use Rattle.wing_mirror.specs.Rows.{Table, In}
use Rattle.wing_mirror.specs.Entry.{Entry, entry}
use Rattle.wing_mirror.specs.Layout.{Layout, ValidEntry, Lawful}
use Rattle.wing_mirror.specs.Table.{usable, put, fits}
use Rattle.wing_mirror.specs.Counts.{zero_counts}
use Rattle.wing_mirror.specs.Call.{feed, set, TypedCall}
use Rattle.wing_mirror.specs.Mirror.{TableTally, table_tally, keep_event, FeedEffect, mirror_feed, SetEffect, mirror_set}
use Rattle.wing_mirror.specs.Machine.{StreamEvent, put_in, room, events, MapTally, map_tally, machine_events}
use Rattle.wing_mirror.specs.History.{in_order, places_in}
use Rattle.wing_mirror.specs.Origins.{entries_of, GivenBySet, GivenByFeed, WhoSetIt}
use Rattle.wing_mirror.specs.declared.origin.Origin.TheVariants.{Console, SetOrder}
use Rattle.wing_mirror.proofs.Calls.Outcomes.{fed-events, passed, set_cases}
use Rattle.wing_mirror.proofs.Histories.Along.{fold_events}
use Rattle.wing_mirror.proofs.Histories.Maps.{ValidMap, valid-put}
use Rattle.wing_mirror.proofs.Histories.InOrder.{order-in, in_order_lem}
use Rattle.wing_mirror.proofs.Histories.Mirrored.{table_of, rows-image, recs-back, fits-image, put-image}
use Rattle.wing_mirror.proofs.Histories.Decodes.{ValidState, events-valid}
use Rattle.wing_mirror.proofs.Histories.Events.{machine-events-valid, table_tally_of, keep-all-image}
use Rattle.wing_mirror.proofs.Histories.Invariant.{set-valid}
use Rattle.wing_mirror.proofs.Histories.Starts.{own-valid, own-image}
use Rattle.wing_mirror.proofs.Histories.Puts.{put-in, put-others, one_entry, in-has}
use Rattle.wing_mirror.proofs.Histories.Given.{events-others, events-give, events-put}
use Rattle.wing_mirror.proofs.Histories.Aside.{origin-bytes, compared, recalled, aside}
use Rattle.std.specs.Prelude.{Ok, is_ok, false}

-- ---- a usable table

module _ {L : Layout} (laws : Lawful L) (t : Table) (b : AreBytes t.buffer) (u : usable L t ≡ true) where
  open L use {entry_in, keeping}

  abbrev places : ℕ
  places = places_in L t.buffer

  abbrev es : List Entry
  es = entries_of L t

  own : ValidMap L places es
  own = own-valid laws t b u

  image : table_of L t.buffer es ≡ t
  image = own-image laws t b u

  module _ (n : List Entry) (g : ValidMap L places n) where
    -- the records of a map's image say its entries in order
    in-records : entries_of L (table_of L t.buffer n) ≡ in_order n
    in-records = ap (map entry_in) (rows-image laws t.buffer n g) ∙ recs-back laws places n g

    said : (e : Entry) → (In e (entries_of L (table_of L t.buffer n)) ↔ In e n)
    said e = (λ i. order-in e n (subst (λ (l : List Entry). In e l) in-records i), λ i. subst (λ (l : List Entry). In e l) (sym in-records) (in_order_lem e n g.apart i))

  -- a put
  put-gives : (id : ℤ) (v : NodeValue) → ValidEntry L (entry id v SetOrder) → fits L (entry id v SetOrder) t ≡ true → GivenBySet L es (entries_of L (put L (entry id v SetOrder) t)) id v
  put-gives id v p f =
      let x : Entry = entry id v SetOrder in
      let q : put L x t ≡ table_of L t.buffer (put_in x es) = ap (put L x) (sym image) ∙ put-image laws t.buffer es own x p in
      let r : room places id es ≡ true = sym (fits-image laws t.buffer es own x p) ∙ ap (fits L x) image ∙ f in
      let g : ValidMap L places (put_in x es) = valid-put places x es own p r in
      let a : (e : Entry) → (In e (entries_of L (put L x t)) ↔ In e (put_in x es)) = λ e. rw q (said (put_in x es) g e) in
      record {
        given = (a x).1 (put-in x es);
        only = λ e i k. one_entry places (put_in x es) g e x ((a e).0 i) (put-in x es) k;
        others = λ e n. let o = put-others e x es n in (λ i. o.0 ((a e).0 i), λ i. (a e).1 (o.1 i));
      }

  -- the events of a feed
  events-kept : (s : State) (bytes : List ℕ) → ValidState s → AreBytes bytes →
      GivenByFeed L places (events s bytes) es (entries_of L (fold_events (keep_event L) (events s bytes) (table_tally t zero_counts)).table)
  events-kept s bytes w are =
      let rs : List StreamEvent = events s bytes in
      let h : MapTally = map_tally es zero_counts in
      let valid = events-valid s bytes are w L in
      let n : List Entry = (machine_events keeping places rs h).map in
      let g : ValidMap L places n = machine-events-valid L places rs h valid own in
      let after : TableTally = fold_events (keep_event L) rs (table_tally t zero_counts) in
      let q : after ≡ table_tally_of L t.buffer (machine_events keeping places rs h) =
      ap (λ (x : Table). fold_events (keep_event L) rs (table_tally x zero_counts)) (sym image) ∙ keep-all-image laws t.buffer rs h valid own in
      let a : (e : Entry) → (In e (entries_of L after.table) ↔ In e n) = λ e. rw q (said n g e) in
      let l : length (entries_of L after.table) ≡ length n = rw q (ap length (in-records n g) ∙ g.apart) in
      record {
        given = λ e v i k. events-give L places e.id v rs h valid own k e ((a e).0 i) refl;
        there = λ e v i k. (a (entry e.id v Console)).1 (events-put L places e.id v rs h (inl (in-has e es i)) k);
        placed = λ id v k f. (a (entry id v Console)).1 (events-put L places id v rs h (inr (omega (arith, f, l))) k);
        others = λ e k. let o = events-others L places e rs h k in (λ i. o.0 ((a e).0 i), λ i. (a e).1 (o.1 i));
      }

-- ---- an accepted call

module _ {L : Layout} (laws : Lawful L) where
  set_gives : (t : Table) (id : ℤ) (v : NodeValue) (out : List ℕ) (n : ℕ) → AreBytes t.buffer → TypedCall (set id v out) →
      (mirror_set L id v t out).answer ≡ Ok n → GivenBySet L (entries_of L t) (entries_of L (mirror_set L id v t out).table) id v
  set_gives t id v out n b typed e =
      set_cases L id v t out P (λ why z. absurd (let w : ◌≡◌ {A = ℕ} 0 1 = cc in omega arith))
      (λ k p q f d z. put-gives laws t b (of-usable e) id v (set-valid id v typed.0 typed.1 k p q) (passed (fits L (entry id v SetOrder) t) f)) e
    where
      P : SetEffect → Type 0
      P x = x.answer ≡ Ok n → GivenBySet L (entries_of L t) (entries_of L x.table) id v

      -- what is accepted was of a usable table
      of-usable : (mirror_set L id v t out).answer ≡ Ok n → usable L t ≡ true
      of-usable = unfold mirror_set in branch (λ (x : SetEffect). x.answer ≡ Ok n → usable L t ≡ true) (not (usable L t)) _ _
          (λ _ z. absurd (let w : ◌≡◌ {A = ℕ} 0 1 = cc in omega arith)) (λ q z. passed (usable L t) q)

  feed-gives : (s : State) (t : Table) (bytes : List ℕ) → AreBytes t.buffer → InRange s.control s.store → TypedCall (feed bytes) →
      is_ok (mirror_feed L s t bytes).answer ≡ true → GivenByFeed L (places_in L t.buffer) (events s bytes) (entries_of L t) (entries_of L (mirror_feed L s t bytes).table)
  unfolding mirror_feed
  feed-gives s t bytes b inside are =
      branch P (sound_state s) _ _
      (λ g. branch P (usable L t) _ _
      (λ u. branch P (leb (length bytes) 65536) _ _
      (λ _ z. rw (fed-events L s t bytes) (events-kept laws t b u s bytes (record { sound = g; inside = inside }) are)) (λ _ z. no z)) (λ _ z. no z)) (λ _ z. no z)
    where
      P : FeedEffect → Type 0
      P x = is_ok x.answer ≡ true → GivenByFeed L (places_in L t.buffer) (events s bytes) (entries_of L t) (entries_of L x.table)

      no : {A : Type 0} → false ≡ true → A
      no e = absurd (let w : ◌≡◌ {A = ℕ} 0 1 = cc in omega arith)

pub who-set-it : {L : Layout} → Lawful L → WhoSetIt L
who-set-it laws =
    record {
      by_set = set_gives laws;
      by_feed = feed-gives laws;
      bytes = origin-bytes laws;
      compared = compared laws;
      recalled = recalled laws;
      aside = aside laws;
    }
