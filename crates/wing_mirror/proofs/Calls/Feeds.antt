-- What feed and set keep of any usable table and sound state: both stay so, counts are few, and a feed may come in two pieces.
use Prim.Native.Nat.{ℕ, ◌+◌, ◌≤◌}
use mathlib.Core.Bool.{true}
use mathlib.Core.Path.{◌≡◌, sym, ◌∙◌, ap}
use mathlib.Core.List.{List, [], ◌∷◌, ◌++◌}
use native.Mathlib.Omega.{arith}
use lib.Dec.{leb}
use lib.IntN.{ℤ}
use lib.ListN.{length, length-append}
use Rattle.wing_node.specs.Value.{NodeValue}
use Rattle.wing_node.proofs.Branches.{branch}
use Rattle.wing_wire.specs.State.{sound_state}
use Rattle.wing_wire.specs.Stream.{Fed, feed_of}
use Rattle.wing_wire.specs.Range.{AreBytes, InRange}
use Rattle.wing_wire.specs.Reader.{Event, more, value, body, end, refused, event_of}
use Rattle.wing_wire.specs.declared.state.State.{State}
use Rattle.wing_wire.proofs.Laws.{decoder-laws}
use Rattle.wing_mirror.specs.Rows.{Table, All}
use Rattle.wing_mirror.specs.Entry.{entry}
use Rattle.wing_mirror.specs.Layout.{Layout, Lawful}
use Rattle.wing_mirror.specs.Table.{usable, fits}
use Rattle.wing_mirror.specs.Counts.{zero_counts, total, add_counts, counts_in}
use Rattle.wing_mirror.specs.Mirror.{TableTally, table_tally, keep_event, keep, FeedEffect, fed_all, taken_feed, mirror_feed, SetEffect, mirror_set}
use Rattle.wing_mirror.specs.Machine.{StreamEvent, events}
use Rattle.wing_mirror.specs.declared.answer.Counts.{Counts}
use Rattle.wing_mirror.specs.declared.origin.Origin.TheVariants.{SetOrder}
use Rattle.wing_mirror.proofs.Records.Lasting.{entry-usable}
use Rattle.wing_mirror.proofs.Calls.Turns.{value-usable}
use Rattle.wing_mirror.proofs.Histories.Along.{fold_events, few-events}
use Rattle.wing_mirror.proofs.Calls.Tallies.{fold-total, atop, add-zero-counts, keep-adds}
use Rattle.wing_mirror.proofs.Histories.Decodes.{ValidEvent, ValidStreamEvent, ValidState, after-valid, events-valid}
use Rattle.wing_mirror.proofs.Calls.Outcomes.{feed-taken, fed-events, passed, text-storable, set_cases}
use Rattle.std.specs.Prelude.{Ok}

-- a feed's counts, refused or taken
pub feed-counts : (L : Layout) (s : State) (t : Table) (bytes : List ℕ) → total (counts_in (mirror_feed L s t bytes).answer) ≤ length bytes + 1
unfolding mirror_feed
feed-counts L s t bytes =
    branch P (sound_state s) _ _
    (λ g. branch P (usable L t) _ _
    (λ _. branch P (leb (length bytes) 65536) _ _
    (λ _. rw (fed-events L s t bytes) (omega (arith, fold-total L (events s bytes) (table_tally t zero_counts), few-events s bytes g))) (λ _. omega arith)) (λ _. omega arith)) (λ _. omega arith)
  where
    P : FeedEffect → Type 0
    P x = total (counts_in x.answer) ≤ length bytes + 1

-- a feed that begins with counts c
from-counts : (L : Layout) (x : Fed TableTally) (c : Counts) (bytes : List ℕ) →
    feed_of (keep L) (record { control = x.control; store = x.store; memo = table_tally x.memo.table c }) bytes
    ≡ (let y = feed_of (keep L) (record { control = x.control; store = x.store; memo = table_tally x.memo.table zero_counts }) bytes in
    record { control = y.control; store = y.store; memo = atop c y.memo })
from-counts L x c bytes =
    ap (λ (d : Counts). feed_of (keep L) (record { control = x.control; store = x.store; memo = table_tally x.memo.table d }) bytes) (sym (add-zero-counts c))
    ∙ sym (decoder-laws.feed.along (keep L) (keep L) (atop c) (λ node a t k. keep-adds L c node (event_of a t t) k) (record { control = x.control; store = x.store; memo = table_tally x.memo.table zero_counts }) bytes)

-- two taken feeds, the second on what the first leaves, as one: counts add
abbrev pub together : FeedEffect → FeedEffect → FeedEffect
together x y = record { answer = Ok (add_counts (counts_in x.answer) (counts_in y.answer)); state = y.state; table = y.table }

-- a feed on what another leaves
abbrev pub onwards : Layout → FeedEffect → List ℕ → FeedEffect
onwards L x b = mirror_feed L x.state x.table b

module _ {L : Layout} (laws : Lawful L) where
  -- one event leaves a usable table usable
  keep-usable : (node : ℤ) (e : Event) (k : TableTally) → ValidEvent L node e → usable L k.table ≡ true → usable L (keep_event L node e k).table ≡ true
  unfolding keep_event
  keep-usable node more k p u = u
  keep-usable node (value v) k p u = value-usable laws node v k (λ o. (p o).text) u
  keep-usable node (body b) k p u = u
  keep-usable node end k p u = u
  keep-usable node (refused n) k p u = u

  -- so do all of them
  fold-usable : (rs : List StreamEvent) (k : TableTally) → All (ValidStreamEvent L) rs → usable L k.table ≡ true → usable L (fold_events (keep_event L) rs k).table ≡ true
  unfolding fold_events
  fold-usable [] k p u = u
  fold-usable (r ∷ rs) k p u = fold-usable rs (keep_event L r.node r.event k) p.1 (keep-usable r.node r.event k p.0 u)

  -- a feed leaves a usable table usable and a sound state sound
  pub feed-sound : (s : State) (t : Table) (bytes : List ℕ) → InRange s.control s.store → AreBytes bytes → sound_state s ≡ true → usable L t ≡ true →
      (usable L (mirror_feed L s t bytes).table ≡ true) × (sound_state (mirror_feed L s t bytes).state ≡ true)
  unfolding mirror_feed
  feed-sound s t bytes inside are g u =
      let w : ValidState s = record { sound = g; inside = inside } in
      rw (g, u) (branch P (leb (length bytes) 65536) _ _
      (λ _. rw (fed-events L s t bytes) (fold-usable (events s bytes) (table_tally t zero_counts) (events-valid s bytes are w L) u, (after-valid s bytes are w).sound)) (λ _. (u, g)))
    where
      P : FeedEffect → Type 0
      P x = (usable L x.table ≡ true) × (sound_state x.state ≡ true)

  -- a set leaves a usable table usable
  pub set-sound : (id : ℤ) (v : NodeValue) (t : Table) (out : List ℕ) → usable L t ≡ true → usable L (mirror_set L id v t out).table ≡ true
  set-sound id v t out u =
      set_cases L id v t out (λ (x : SetEffect). usable L x.table ≡ true) (λ n. u)
      (λ o a b c d. entry-usable laws (entry id v SetOrder) t (text-storable v a b) o u (passed (fits L (entry id v SetOrder) t) c))

  -- the bytes of two feeds, fed at once, are the two feeds together
  pub feed-joined : (s : State) (t : Table) (a b : List ℕ) → InRange s.control s.store → AreBytes a → sound_state s ≡ true → usable L t ≡ true → length (a ++ b) ≤ 65536 →
      mirror_feed L s t (a ++ b) ≡ together (mirror_feed L s t a) (onwards L (mirror_feed L s t a) b)
  unfolding fed_all
  feed-joined s t a b inside are g u few =
      let z : Fed TableTally = record { control = s.control; store = s.store; memo = table_tally t zero_counts } in
      let x : FeedEffect = mirror_feed L s t a in
      let k = feed-sound s t a inside are g u in
      let first : x ≡ taken_feed (fed_all L s t a) = feed-taken L s t a g u (omega (arith, length-append a b)) in
      let second : onwards L x b ≡ taken_feed (fed_all L x.state x.table b) = feed-taken L x.state x.table b k.1 k.0 (omega (arith, length-append a b)) in
      feed-taken L s t (a ++ b) g u few
      ∙ ap taken_feed (decoder-laws.feed.pieces (keep L) z a b ∙ from-counts L (feed_of (keep L) z a) (feed_of (keep L) z a).memo.counts b)
      ∙ ap (λ (f : FeedEffect). together f (taken_feed (fed_all L f.state f.table b))) (sym first)
      ∙ ap (together x) (sym second)
