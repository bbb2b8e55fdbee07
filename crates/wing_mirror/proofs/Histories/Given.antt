-- What events leave in the plain machine's map: the last value that they give a node, from the console.
use Prim.Native.Nat.{ℕ, ◌≤◌, ◌<◌}
use mathlib.Core.Bool.{Bool, true, false}
use mathlib.Core.Path.{◌≡◌, refl, sym, ◌∙◌, ap, subst}
use mathlib.Core.Logic.{◌⊎◌, inl, inr, ◌↔◌}
use mathlib.Core.List.{List, [], ◌∷◌}
use native.Mathlib.Omega.{arith}
use borrow.Author.Tests.{lt-ltb}
use lib.Dec.{ltb}
use lib.IntN.{ℤ}
use lib.ListN.{length}
use Rattle.wing_node.specs.Bool.{if}
use Rattle.wing_node.specs.Value.{NodeValue}
use Rattle.wing_node.proofs.Branches.{branch}
use Rattle.wing_wire.specs.Reader.{Event, more, value, body, end, refused}
use Rattle.wing_mirror.specs.Rows.{Found, found, nothing, All, In}
use Rattle.wing_mirror.specs.Entry.{Entry, entry}
use Rattle.wing_mirror.specs.Layout.{Keeping, kept, unkept, unless_kept, Layout}
use Rattle.wing_mirror.specs.Lists.{or_else}
use Rattle.wing_mirror.specs.Machine.{StreamEvent, same_id, has, put_in, room, MapTally, machine_event, machine_events}
use Rattle.wing_mirror.specs.Origins.{value_given, last_given}
use Rattle.wing_mirror.specs.declared.origin.Origin.TheVariants.{Console}
use Rattle.wing_mirror.proofs.Records.Choices.{keeping-cases}
use Rattle.wing_mirror.proofs.Records.Ids.{same_id_lem}
use Rattle.wing_mirror.proofs.Histories.Maps.{ValidMap, put-grows, valid-put}
use Rattle.wing_mirror.proofs.Histories.Decodes.{ValidEvent, ValidStreamEvent}
use Rattle.wing_mirror.proofs.Histories.Events.{machine-event-valid}
use Rattle.wing_mirror.proofs.Histories.Puts.{id_same, put-in, put-others, has-none, one_entry, put_has}

-- ---- events

module _ (L : Layout) (places : ℕ) where
  open L use {keeping}

  -- the node's entry, where it has one, is of this value and from the console
  abbrev IsLast : ℤ → NodeValue → List Entry → Type 0
  IsLast id v m = (e : Entry) → In e m → e.id ≡ id → e ≡ entry id v Console

  -- no room: the node is not in the map
  no_room : (id : ℤ) (m : List Entry) → room places id m ≡ false → has id m ≡ false
  unfolding room
  no_room id m q = go (has id m) q
    where
      go : (t : Bool) → if t true (ltb (length m) places) ≡ false → t ≡ false
      go true z = z
      go false z = refl

  some-room : (id : ℤ) (m : List Entry) → (has id m ≡ true) ⊎ (length m < places) → room places id m ≡ true
  unfolding room
  some-room id m (inl h) = rw h
  some-room id m (inr l) = rw (lt-ltb (length m) places l) (go (has id m))
    where
      go : (t : Bool) → if t true true ≡ true
      go true = refl
      go false = refl

  -- an event that gives a value is that value, and it is kept
  event-value : (P : Event → Type 0) (x : Event) (v : NodeValue) → value_given keeping x ≡ found v → (keeping v ≡ kept → P (value v)) → P x
  unfolding value_given
  event-value P more v e f = absurd (let w : ◌≡◌ {A = ℕ} 0 1 = cc in omega arith)
  event-value P (value u) v e f = go (keeping u) refl e
    where
      go : (k : Keeping) → keeping u ≡ k → unless_kept k (λ mark why. nothing) (found u) ≡ found v → P (value u)
      go kept q z = let same : u ≡ v = cc in subst (λ (y : NodeValue). P (value y)) (sym same) (f (ap keeping (sym same) ∙ q))
      go (unkept mark why) q z = absurd (let w : ◌≡◌ {A = ℕ} 0 1 = cc in omega arith)
  event-value P (body b) v e f = absurd (let w : ◌≡◌ {A = ℕ} 0 1 = cc in omega arith)
  event-value P end v e f = absurd (let w : ◌≡◌ {A = ℕ} 0 1 = cc in omega arith)
  event-value P (refused n) v e f = absurd (let w : ◌≡◌ {A = ℕ} 0 1 = cc in omega arith)

  -- a value that is kept is the node's: put, it is the node's one entry; without a place, the node has none
  value-gives : (node : ℤ) (v : NodeValue) (h : MapTally) → ValidEvent L node (value v) → ValidMap L places h.map → keeping v ≡ kept → IsLast node v (machine_event keeping places node (value v) h).map
  unfolding machine_event
  value-gives node v h p g k = rw k (branch P (room places node h.map) _ _ put absent)
    where
      x : Entry
      x = entry node v Console

      P : MapTally → Type 0
      P y = IsLast node v y.map

      put : room places node h.map ≡ true → IsLast node v (put_in x h.map)
      put q e i s = one_entry places (put_in x h.map) (valid-put places x h.map g (p k) q) e x i (put-in x h.map) s

      absent : room places node h.map ≡ false → IsLast node v h.map
      absent q e i s = absurd (has-none node h.map (no_room node h.map q) e i s)

  -- and is put where the map has the node or a place is free
  value-puts : (node : ℤ) (v : NodeValue) (h : MapTally) → keeping v ≡ kept → (has node h.map ≡ true) ⊎ (length h.map < places) → In (entry node v Console) (machine_event keeping places node (value v) h).map
  unfolding machine_event
  value-puts node v h k r = rw (k, some-room node h.map r) (put-in (entry node v Console) h.map)

  -- an event that gives a node no value leaves its entry
  event-others : (e : Entry) (node : ℤ) (x : Event) (h : MapTally) → if (same_id node e.id) (value_given keeping x) nothing ≡ nothing → (In e (machine_event keeping places node x h).map ↔ In e h.map)
  unfolding machine_event value_given
  event-others e node more h n = (λ i. i, λ i. i)
  event-others e node (value v) h n = go (keeping v) refl (room places node h.map) refl
    where
      P : MapTally → Type 0
      P y = In e y.map ↔ In e h.map

      apart : keeping v ≡ kept → e.id ≡ node → ⊥
      apart k q =
          let s : same_id node e.id ≡ true = ap (λ (i : ℤ). same_id node i) q ∙ id_same node in
          let z : found v ≡ nothing = rw (k, s) at n in let w : ◌≡◌ {A = ℕ} 0 1 = cc in omega arith

      go : (k : Keeping) → keeping v ≡ k → (t : Bool) → room places node h.map ≡ t → P (machine_event keeping places node (value v) h)
      go (unkept mark why) k t q = rw k (λ i. i, λ i. i)
      go kept k true q = rw (k, q) (put-others e (entry node v Console) h.map (apart k))
      go kept k false q = rw (k, q) (λ i. i, λ i. i)
  event-others e node (body b) h n = (λ i. i, λ i. i)
  event-others e node end h n = (λ i. i, λ i. i)
  event-others e node (refused k) h n = (λ i. i, λ i. i)

  -- what is given last: by the later events, or else by the first
  later : (id : ℤ) (r : StreamEvent) (rs : List StreamEvent) (P : Found NodeValue → Type 0) →
      ((v : NodeValue) → last_given keeping id rs ≡ found v → P (found v)) →
      (last_given keeping id rs ≡ nothing → P (if (same_id r.node id) (value_given keeping r.event) nothing)) → P (last_given keeping id (r ∷ rs))
  unfolding last_given or_else
  later id r rs P f g = go (last_given keeping id rs) refl
    where
      go : (x : Found NodeValue) → last_given keeping id rs ≡ x → P (or_else x (if (same_id r.node id) (value_given keeping r.event) nothing))
      go (found v) q = f v q
      go nothing q = g q

  pub events-others : (e : Entry) (rs : List StreamEvent) (h : MapTally) → last_given keeping e.id rs ≡ nothing → (In e (machine_events keeping places rs h).map ↔ In e h.map)
  unfolding machine_events
  events-others e [] h = λ n. (λ i. i, λ i. i)
  events-others e (r ∷ rs) h =
      let next : MapTally = machine_event keeping places r.node r.event h in
      let ih : last_given keeping e.id rs ≡ nothing → (In e (machine_events keeping places rs next).map ↔ In e next.map) = events-others e rs next in
      later e.id r rs (λ (x : Found NodeValue). x ≡ nothing → (In e (machine_events keeping places rs next).map ↔ In e h.map))
      (λ v q z. absurd (let w : ◌≡◌ {A = ℕ} 0 1 = cc in omega arith))
      (λ q z.
      let a = ih q in
      let b = event-others e r.node r.event h z in
      (λ i. b.0 (a.0 i), λ i. a.1 (b.1 i)))

  -- the first of events gives the node a value
  at-node : (id : ℤ) (r : StreamEvent) (v : NodeValue) → if (same_id r.node id) (value_given keeping r.event) nothing ≡ found v → (r.node ≡ id) × (value_given keeping r.event ≡ found v)
  at-node id r v = go (same_id r.node id) refl
    where
      go : (t : Bool) → same_id r.node id ≡ t → if t (value_given keeping r.event) nothing ≡ found v → (r.node ≡ id) × (value_given keeping r.event ≡ found v)
      go true q z = (same_id_lem r.node id q, z)
      go false q z = absurd (let w : ◌≡◌ {A = ℕ} 0 1 = cc in omega arith)

  -- a node that the events give values has the last of them, from the console
  pub events-give : (id : ℤ) (v : NodeValue) (rs : List StreamEvent) (h : MapTally) → All (ValidStreamEvent L) rs → ValidMap L places h.map → last_given keeping id rs ≡ found v →
      IsLast id v (machine_events keeping places rs h).map
  unfolding machine_events
  events-give id v [] h p g = λ z. absurd (none-given z)
    where
      none-given : last_given keeping id [] ≡ found v → ⊥
      none-given z = let y : nothing ≡ found v = unfold last_given in z in let w : ◌≡◌ {A = ℕ} 0 1 = cc in omega arith
  events-give id v (r ∷ rs) h p g =
      let next : MapTally = machine_event keeping places r.node r.event h in
      let ih = events-give id v rs next p.1 (machine-event-valid L places r.node r.event h p.0 g) in
      later id r rs (λ (x : Found NodeValue). x ≡ found v → IsLast id v (machine_events keeping places rs next).map)
      (λ w q z. ih (q ∙ z))
      (λ q z e i s.
      let a = at-node id r v z in
      let first : IsLast r.node v next.map =
      event-value (λ (x : Event). ValidEvent L r.node x → IsLast r.node v (machine_event keeping places r.node x h).map) r.event v a.1
      (λ k y. value-gives r.node v h y g k) p.0 in
      first e ((events-others e rs next (ap (λ (j : ℤ). last_given keeping j rs) s ∙ q)).0 i) (s ∙ sym a.0) ∙ ap (λ (j : ℤ). entry j v Console) a.0)

  -- an event takes no entry away
  event-grows : (node : ℤ) (x : Event) (h : MapTally) → length h.map ≤ length (machine_event keeping places node x h).map
  unfolding machine_event
  event-grows node more h = omega arith
  event-grows node (value v) h =
      keeping-cases P (keeping v) _ _ (λ mark why. omega arith) (λ _. branch P (room places node h.map) _ _ (λ _. put-grows (entry node v Console) h.map) (λ _. omega arith))
    where
      P : MapTally → Type 0
      P y = length h.map ≤ length y.map
  event-grows node (body b) h = omega arith
  event-grows node end h = omega arith
  event-grows node (refused n) h = omega arith

  events-grow : (rs : List StreamEvent) (h : MapTally) → length h.map ≤ length (machine_events keeping places rs h).map
  unfolding machine_events
  events-grow [] h = omega arith
  events-grow (r ∷ rs) h = omega (arith, event-grows r.node r.event h, events-grow rs (machine_event keeping places r.node r.event h))

  event-has : (id node : ℤ) (x : Event) (h : MapTally) → has id h.map ≡ true → has id (machine_event keeping places node x h).map ≡ true
  unfolding machine_event
  event-has id node more h k = k
  event-has id node (value v) h k =
      keeping-cases P (keeping v) _ _ (λ mark why. k) (λ _. branch P (room places node h.map) _ _ (λ _. put_has id (entry node v Console) h.map k) (λ _. k))
    where
      P : MapTally → Type 0
      P y = has id y.map ≡ true
  event-has id node (body b) h k = k
  event-has id node end h k = k
  event-has id node (refused n) h k = k

  -- it is there if the map had the node, or if a place is free after all
  pub events-put : (id : ℤ) (v : NodeValue) (rs : List StreamEvent) (h : MapTally) → (has id h.map ≡ true) ⊎ (length (machine_events keeping places rs h).map < places) → last_given keeping id rs ≡ found v →
      In (entry id v Console) (machine_events keeping places rs h).map
  unfolding machine_events
  events-put id v [] h k = λ z. absurd (none-given z)
    where
      none-given : last_given keeping id [] ≡ found v → ⊥
      none-given z = let y : nothing ≡ found v = unfold last_given in z in let w : ◌≡◌ {A = ℕ} 0 1 = cc in omega arith
  events-put id v (r ∷ rs) h k =
      let next : MapTally = machine_event keeping places r.node r.event h in
      let ih = events-put id v rs next (on k) in
      later id r rs (λ (x : Found NodeValue). x ≡ found v → In (entry id v Console) (machine_events keeping places rs next).map)
      (λ w q z. ih (q ∙ z))
      (λ q z.
      let a = at-node id r v z in
      let first : In (entry r.node v Console) next.map =
      event-value (λ (x : Event). In (entry r.node v Console) (machine_event keeping places r.node x h).map) r.event v a.1
      (λ kept-so. value-puts r.node v h kept-so (now-or (subst (λ (j : ℤ). (has j h.map ≡ true) ⊎ (length (machine_events keeping places rs next).map < places)) (sym a.0) k))) in
      (events-others (entry id v Console) rs next q).1 (subst (λ (j : ℤ). In (entry j v Console) next.map) a.0 first))
    where
      on : (has id h.map ≡ true) ⊎ (length (machine_events keeping places rs (machine_event keeping places r.node r.event h)).map < places) →
          (has id (machine_event keeping places r.node r.event h).map ≡ true) ⊎ (length (machine_events keeping places rs (machine_event keeping places r.node r.event h)).map < places)
      on (inl y) = inl (event-has id r.node r.event h y)
      on (inr l) = inr l

      now-or : (has r.node h.map ≡ true) ⊎ (length (machine_events keeping places rs (machine_event keeping places r.node r.event h)).map < places) → (has r.node h.map ≡ true) ⊎ (length h.map < places)
      now-or (inl y) = inl y
      now-or (inr l) = inr (omega (arith, l, event-grows r.node r.event h, events-grow rs (machine_event keeping places r.node r.event h)))
