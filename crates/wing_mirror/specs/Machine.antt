-- 01's plain machine: the decoder with its current node, and a map with no order. It knows no table.
use Rattle.std.specs.Prelude.{ℕ, Bool, true, false, not, List, [], ◌∷◌, ◌++◌, ltb, eqb, ℤ, pos, negsuc, length}
use Rattle.wing_node.specs.Refusal.{refusal_number, string_not_utf8}
use Rattle.wing_node.specs.Bool.{if}
use Rattle.wing_node.specs.Definition.{definition_of}
use Rattle.wing_node.specs.Value.{NodeValue}
use Rattle.wing_wire.specs.State.{fresh_state}
use Rattle.wing_wire.specs.Stream.{Fed, feed_of}
use Rattle.wing_wire.specs.Reader.{Event, more, value, body, end, refused, event_of}
use Rattle.wing_wire.specs.Command.{set_bytes}
use Rattle.wing_wire.specs.declared.state.State.{State}
use Rattle.wing_wire.specs.declared.unit.Answer.{Answer}
use Rattle.wing_mirror.specs.Entry.{Entry, entry}
use Rattle.wing_mirror.specs.Layout.{Keeping, unless_kept}
use Rattle.wing_mirror.specs.Table.{places_allowed}
use Rattle.wing_mirror.specs.Counts.{zero_counts, tick, refusal_mark, body_mark}
use Rattle.wing_mirror.specs.Call.{Call, feed, set, text_in, too_long, not_text, fed, sent, Step, refuse}
use Rattle.wing_mirror.specs.declared.answer.Counts.{Counts}
use Rattle.wing_mirror.specs.declared.counts.Mark.TheVariants.{Stored, Unplaced, Ended}
use Rattle.wing_mirror.specs.declared.origin.Origin.TheVariants.{Console, SetOrder}
use Rattle.wing_node.specs.declared.refusal.Refusal.TheVariants.{NoPlace, NumberOver, OutputShort, StringLong, TableUnsound}

-- ---- the decoder

-- an event, and the node that was current
pub record StreamEvent : Type 0 where
  pub node : ℤ
  pub event : Event

-- a node and an event
abbrev pub stream_event : ℤ → Event → StreamEvent
stream_event node e = record { node = node; event = e }

-- one event more
abbrev pub append_event : ℤ → Answer → List ℕ → List StreamEvent → List StreamEvent
append_event node a s rs = rs ++ (stream_event node (event_of a s s) ∷ [])

-- 01: next until "more" (wing_wire's feed_of): the events in order
unfoldable pub decode_all : State → List ℕ → Fed (List StreamEvent)
decode_all s bytes = feed_of append_event (record { control = s.control; store = s.store; memo = [] }) bytes

-- the decoder after the bytes
abbrev pub state_after : State → List ℕ → State
state_after s bytes = record { control = (decode_all s bytes).control; store = (decode_all s bytes).store }

-- the events that the bytes give, in order
abbrev pub events : State → List ℕ → List StreamEvent
events s bytes = (decode_all s bytes).memo

-- ---- the map

-- two ids are one
abbrev pub same_id : ℤ → ℤ → Bool
same_id (pos m) (pos n) = eqb m n
same_id (pos m) (negsuc n) = false
same_id (negsuc m) (pos n) = false
same_id (negsuc m) (negsuc n) = eqb m n

-- the node is in the map
unfoldable pub has : ℤ → List Entry → Bool
has id [] = false
has id (e ∷ m) = if (same_id e.id id) true (has id m)

-- 01: puts (node, value), the newer replacing the older; 02: with its origin
unfoldable pub put_in : Entry → List Entry → List Entry
put_in e [] = e ∷ []
put_in e (x ∷ m) = if (same_id x.id e.id) (e ∷ m) (x ∷ put_in e m)

-- 01: the node is in the map, or the map has fewer entries than places
unfoldable pub room : ℕ → ℤ → List Entry → Bool
room places id m = if (has id m) true (ltb (length m) places)

-- ---- the machine

-- the current node stands in the decoder
pub record Machine : Type 0 where
  pub decoder : State
  pub map : List Entry

-- 01: at first fresh, 0 and empty
abbrev pub new_machine : Machine
new_machine = record { decoder = fresh_state; map = [] }

-- the map, and the counts so far
pub record MapTally : Type 0 where
  pub map : List Entry
  pub counts : Counts

-- a map with counts
abbrev pub map_tally : List Entry → Counts → MapTally
map_tally m c = record { map = m; counts = c }

-- which values are kept: all, by 01
module _ (keeping : NodeValue → Keeping) where
  -- 01: counts value events put, value events not put, refusals 1, bodies the parser takes, refusals 2 to 5, ends; a value that is not kept
  -- is only counted. 02: origin 0 for a put by a feed
  unfoldable pub machine_event : ℕ → ℤ → Event → MapTally → MapTally
  machine_event places node more h = h
  machine_event places node (value v) h =
      unless_kept (keeping v) (λ mark why. map_tally h.map (tick mark h.counts))
      (if (room places node h.map) (map_tally (put_in (entry node v Console) h.map) (tick Stored h.counts))
      (map_tally h.map (tick Unplaced h.counts)))
  machine_event places node (body b) h = map_tally h.map (tick (body_mark (definition_of b)) h.counts)
  machine_event places node end h = map_tally h.map (tick Ended h.counts)
  machine_event places node (refused why) h = map_tally h.map (tick (refusal_mark (refusal_number why)) h.counts)

  -- events one after the other
  unfoldable pub machine_events : ℕ → List StreamEvent → MapTally → MapTally
  machine_events places [] h = h
  machine_events places (r ∷ rs) h = machine_events places rs (machine_event places r.node r.event h)

  -- what a feed makes of the map, with counts from 0
  abbrev pub machine_feed : ℕ → Machine → List ℕ → MapTally
  machine_feed places s bytes = machine_events places (events s.decoder bytes) (map_tally s.map zero_counts)

  -- 01: a feed meets 7 by the places alone, then 14; a set 7, the number of a value that is not kept, 10, 1, 6 by the map, 9, else puts. 02: origin 1 for
  -- a put by a set
  unfoldable pub machine_step : ℕ → Machine → Call → Step Machine
  machine_step places s (feed bytes) =
      if (not (places_allowed places)) (refuse s TableUnsound)
      (if (ltb 65536 (length bytes)) (refuse s NumberOver)
      (record {
        state = record { decoder = state_after s.decoder bytes; map = (machine_feed places s bytes).map };
        outcome = fed (machine_feed places s bytes).counts;
      }))
  machine_step places s (set id v out) =
      if (not (places_allowed places)) (refuse s TableUnsound)
      (unless_kept (keeping v) (λ mark why. refuse s why)
      (if (too_long v) (refuse s StringLong)
      (if (not_text v) (refuse s (string_not_utf8 (text_in v)))
      (if (not (room places id s.map)) (refuse s NoPlace)
      (if (ltb (length out) (length (set_bytes id v))) (refuse s OutputShort)
      (record { state = record { decoder = s.decoder; map = put_in (entry id v SetOrder) s.map }; outcome = sent (set_bytes id v) }))))))
