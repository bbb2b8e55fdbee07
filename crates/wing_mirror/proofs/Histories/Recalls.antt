-- What recall writes, read by the decoder: each record's value at its node, in order.
use Prim.Native.Nat.{ℕ}
use mathlib.Core.Bool.{true}
use mathlib.Core.Path.{◌≡◌, refl, sym, ◌∙◌, ap}
use mathlib.Core.List.{List, [], ◌∷◌, ◌++◌, map, append_assoc, append-nil}
use native.Mathlib.Omega.{arith}
use borrow.Author.Tests.{leb-true}
use lib.Dec.{leb}
use lib.IntN.{ℤ, pos, negsuc}
use lib.ListN.{length, replicate, length-replicate}
use Rattle.wing_node.specs.Utf8.{utf8}
use Rattle.wing_node.specs.Value.{NodeValue, integer, float, string}
use Rattle.wing_node.proofs.Branches.{if-both}
use Rattle.wing_wire.specs.State.{zeros, sound_pending, sound_escape, sound_counts, stored_by, sound_token, sound_state, fresh_state, body_limit}
use Rattle.wing_wire.specs.Stream.{Fed, feed_of}
use Rattle.wing_wire.specs.Reader.{value, event_of}
use Rattle.wing_wire.specs.RoundTrip.{Settable, rest_state}
use Rattle.wing_wire.specs.declared.state.State.{State}
use Rattle.wing_wire.proofs.Laws.{decoder-laws}
use Rattle.wing_node.specs.Bytes.{joined}
use Rattle.wing_mirror.specs.Rows.{All}
use Rattle.wing_mirror.specs.Entry.{Entry, storable, Typed}
use Rattle.wing_mirror.specs.Layout.{Layout, ValidEntry}
use Rattle.wing_mirror.specs.Machine.{StreamEvent, stream_event, append_event, decode_all, state_after, events}
use Rattle.wing_mirror.specs.Recall.{set_of}

-- the events of bytes that come in two pieces are those of each, one after the other
pub decode-pieces : (s : State) (a b : List ℕ) →
    decode_all s (a ++ b) ≡ record { control = (decode_all (state_after s a) b).control; store = (decode_all (state_after s a) b).store; memo = events s a ++ events (state_after s a) b }
unfolding decode_all
decode-pieces s a b =
    let x : Fed (List StreamEvent) = record { control = s.control; store = s.store; memo = [] } in
    let y : Fed (List StreamEvent) = feed_of append_event x a in
    decoder-laws.feed.pieces append_event x a b
    ∙ ap (λ (l : List StreamEvent). feed_of append_event (record { control = y.control; store = y.store; memo = l }) b) (sym (append-nil y.memo))
    ∙ sym (decoder-laws.feed.along append_event append_event (λ (ms : List StreamEvent). y.memo ++ ms) (λ node t l ms. sym (append_assoc y.memo ms (stream_event node (event_of t l l) ∷ [])))
    (record { control = y.control; store = y.store; memo = [] }) b)

pub events-pieces : (s : State) (a b : List ℕ) → events s (a ++ b) ≡ events s a ++ events (state_after s a) b
events-pieces s a b = ap (λ (x : Fed (List StreamEvent)). x.memo) (decode-pieces s a b)

-- the second piece goes on from what the first left
onward : (s : State) (a b : List ℕ) (x : Fed (List StreamEvent)) → decode_all s a ≡ x → events s (a ++ b) ≡ x.memo ++ events (record { control = x.control; store = x.store }) b
onward s a b x e =
    events-pieces s a b ∙ ap (λ (y : Fed (List StreamEvent)). y.memo ++ events (record { control = y.control; store = y.store }) b) e

-- a valid entry's value is one that a set order holds
settable : (v : NodeValue) → Typed v → storable v ≡ true → Settable v
unfolding storable
settable (integer x) t h = t
settable (float bits) t h = omega arith
settable (string s) t h = let b = if-both (leb (length s) 256) (utf8 s) h in (leb-true (length s) 256 b.0, b.1)

-- on channel 1, unescaped, between tokens, nothing pending and nothing stored
abbrev channel_one : ℤ → State
channel_one node = rest_state (pos 1) node (replicate body_limit 0)

-- 01: df d1
opened : decode_all fresh_state (0xdf ∷ 0xd1 ∷ []) ≡ record { control = (channel_one (pos 0)).control; store = (channel_one (pos 0)).store; memo = [] }
unfolding decode_all fresh_state
opened = decoder-laws.feed.channel append_event (negsuc 0) (pos 0) (replicate body_limit 0) [] 1 (omega arith)

channel-one-sound : (node : ℤ) → sound_state (channel_one node) ≡ true
unfolding sound_state sound_escape sound_pending sound_token sound_counts stored_by zeros
channel-one-sound node = refl

-- an entry as it is read
abbrev pub entry_event : Entry → StreamEvent
entry_event e = stream_event e.id (value e.value)

-- a set order is its value at its node
set-event : {L : Layout} (node : ℤ) (e : Entry) → ValidEntry L e → decode_all (channel_one node) (set_of e) ≡ record { control = (channel_one e.id).control; store = (channel_one e.id).store; memo = entry_event e ∷ [] }
unfolding decode_all joined
set-event node e h =
    decoder-laws.feed.order (λ n x rs. rs ++ (stream_event n x ∷ [])) (pos 1) node e.id (replicate body_limit 0) e.value [] (set_of e ∷ []) h.node (settable e.value h.typed h.text)
    (length-replicate {A = ℕ} body_limit 0) (channel-one-sound node) (append-nil (set_of e))

-- set orders one after the other are their values in order
set-events : (L : Layout) (es : List Entry) (node : ℤ) → All (ValidEntry L) es → events (channel_one node) (joined (map set_of es)) ≡ map entry_event es
unfolding joined
set-events L [] node h = no_bytes
  where
    no_bytes : events (channel_one node) [] ≡ []
    no_bytes = unfold decode_all in ap (λ (x : Fed (List StreamEvent)). x.memo) (decoder-laws.feed.empty append_event (record { control = (channel_one node).control; store = (channel_one node).store; memo = [] }) refl)
set-events L (e ∷ es) node h =
    onward (channel_one node) (set_of e) (joined (map set_of es)) _ (set-event node e h.0) ∙ ap (λ (l : List StreamEvent). entry_event e ∷ l) (set-events L es e.id h.1)

-- what recall writes
pub recall-events : (L : Layout) (es : List Entry) → All (ValidEntry L) es → events fresh_state (0xdf ∷ 0xd1 ∷ joined (map set_of es)) ≡ map entry_event es
recall-events L es h = onward fresh_state (0xdf ∷ 0xd1 ∷ []) (joined (map set_of es)) _ opened ∙ set-events L es (pos 0) h
