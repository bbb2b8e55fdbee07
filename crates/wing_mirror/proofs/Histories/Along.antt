-- A feed with any handler is its events, each handed to the handler.
use Prim.Native.Nat.{ℕ, ◌+◌, ◌≤◌}
use mathlib.Core.Bool.{true}
use mathlib.Core.Path.{◌≡◌, refl, sym, ◌∙◌, ap}
use mathlib.Core.List.{List, [], ◌∷◌, ◌++◌}
use native.Mathlib.Omega.{arith}
use lib.IntN.{ℤ}
use lib.ListN.{length, length-append}
use Rattle.wing_wire.specs.State.{sound_state}
use Rattle.wing_wire.specs.Stream.{Fed, feed_of}
use Rattle.wing_wire.specs.Reader.{Event, event_of}
use Rattle.wing_wire.specs.declared.state.State.{State}
use Rattle.wing_wire.specs.DecoderLaws.{count}
use Rattle.wing_wire.proofs.Laws.{decoder-laws}
use Rattle.wing_mirror.specs.Machine.{StreamEvent, stream_event, append_event, decode_all, events}

-- events handed on one after the other
unfoldable pub fold_events : {M : Type 0} → (ℤ → Event → M → M) → List StreamEvent → M → M
fold_events h [] m = m
fold_events h (r ∷ rs) m = fold_events h rs (h r.node r.event m)

-- one event more
fold-last : {M : Type 0} (h : ℤ → Event → M → M) (rs : List StreamEvent) (r : StreamEvent) (m : M) → fold_events h (rs ++ (r ∷ [])) m ≡ h r.node r.event (fold_events h rs m)
unfolding fold_events
fold-last h [] r m = refl
fold-last h (x ∷ rs) r m = fold-last h rs r (h x.node x.event m)

-- control, store and memo of a feed, from the machine's events of the bytes
pub feed-events : {M : Type 0} (h : ℤ → Event → M → M) (s : State) (m : M) (bytes : List ℕ) →
    feed_of (λ node a t n. h node (event_of a t t) n) (record { control = s.control; store = s.store; memo = m }) bytes
    ≡ record { control = (decode_all s bytes).control; store = (decode_all s bytes).store; memo = fold_events h (events s bytes) m }
unfolding decode_all fold_events
feed-events {M} h s m bytes =
    sym (decoder-laws.feed.along append_event (λ node a t n. h node (event_of a t t) n) (λ (rs : List StreamEvent). fold_events h rs m)
    (λ node a t rs. fold-last h rs (stream_event node (event_of a t t)) m) (record { control = s.control; store = s.store; memo = [] }) bytes)

-- a sound state gives at most one event more than there are bytes
pub few-events : (s : State) (bytes : List ℕ) → sound_state s ≡ true → length (events s bytes) ≤ length bytes + 1
unfolding decode_all
few-events s bytes g =
    let x : Fed (List StreamEvent) = record { control = s.control; store = s.store; memo = [] } in
    let e = decoder-laws.feed.along append_event count length (λ node a t rs. length-append rs (stream_event node (event_of a t t) ∷ []) ∙ omega arith) x bytes in
    omega (arith, ap (λ (y : Fed ℕ). y.memo) e, decoder-laws.sound.few (record { control = s.control; store = s.store; memo = 0 }) bytes g)
