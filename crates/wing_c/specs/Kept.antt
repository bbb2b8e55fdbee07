-- A decoder state kept as bytes: what a feed, a next call and a check make of it.
use Rattle.std.specs.Prelude.{ℕ, List, [], leb, ℤ, pos, length, drop, Err, Ok}
use Rattle.wing_node.specs.Bool.{if}
use Rattle.wing_node.specs.Refusal.{refusal_number}
use Rattle.wing_node.specs.Result.{Result, ok, refused}
use Rattle.wing_node.specs.Value.{NodeValue, integer, float, string}
use Rattle.wing_node.specs.declared.refusal.Refusal.{Refusal}
use Rattle.wing_wire.specs.State.{body_limit, state_of}
use Rattle.wing_wire.specs.Reader.{Event, more, value, body, end, refused as refusal, over, next_of, next_event}
use Rattle.wing_wire.specs.declared.state.Control.{Control}
use Rattle.wing_wire.specs.declared.state.State.{State}
use Rattle.wing_wire.specs.declared.stream.Advanced.{Advanced}
use Rattle.wing_wire.specs.declared.reader.Reply.{Reply}
use Rattle.wing_wire.specs.declared.unit.Answer.{Answer}
use Rattle.wing_wire.specs.declared.unit.Answer.TheVariants.{More, Integer, Float, String, Body, End, Refused as NextRefused}
use Rattle.wing_wire.specs.Write.{WriteEffect, write_effect}
use Rattle.wing_saved.specs.Saved.{state_bytes, state_from, save_of}
use Rattle.wing_mirror.specs.Rows.{Table}
use Rattle.wing_mirror.specs.Record.{full}
use Rattle.wing_mirror.specs.Mirror.{FeedEffect, mirror_feed}
use Rattle.wing_c.specs.Numbers.{minus, sent_back, fed_numbers, no_event, event_numbers}
use Rattle.wing_c.specs.declared.answers.WingFed.{WingFed}
use Rattle.wing_c.specs.declared.answers.WingEvent.{WingEvent}
use Rattle.wing_node.specs.declared.refusal.Refusal.TheVariants.{NumberOver, OutputShort}
use Rattle.wing_mirror.specs.declared.answer.Counts.{Counts}

-- 0 for the bytes of a sound state, else 8
abbrev pub state_status : Result State → ℤ
state_status (ok s) = pos 0
state_status (refused why) = minus (refusal_number why)

-- the state of a control and of the store in a state's bytes
abbrev pub state_in : Control → List ℕ → State
state_in c state = state_of c (drop 27 state)

-- ---- a state of version 1 (02)

-- the bytes of what it is carried over as, or 9; where it is not carried over, its refusal, and the output as it was
unfoldable pub carried_kept : Result State → List ℕ → WriteEffect
carried_kept (ok s) out = save_of s out
carried_kept (refused why) out = write_effect (Err why) out

-- what an output of a state's size reads as then: the state carried over, else what it read as before
unfoldable pub state_carried : Result State → Result State → Result State
state_carried (ok s) before = ok s
state_carried (refused why) before = before

-- ---- feed

-- what a feed leaves: its numbers, the bytes of the state and the table buffer
pub record KeptFeed : Type 0 where
  pub numbers : WingFed
  pub state : List ℕ
  pub table : List ℕ

-- numbers, the state's bytes and a table buffer
abbrev pub kept_feed : WingFed → List ℕ → List ℕ → KeptFeed
kept_feed r state buffer = record { numbers = r; state = state; table = buffer }

-- a feed that is taken leaves the bytes of its state; a refused one leaves the bytes as they were
abbrev pub state_after : Result Counts → State → List ℕ → List ℕ
state_after (Ok c) s state = state_bytes s
state_after (Err why) s state = state

-- what the bytes then read as: a taken feed's state, else what they read as before
abbrev pub read_after : Result Counts → State → Result State → Result State
read_after (Ok c) s before = ok s
read_after (Err why) s before = before

-- the library's effect, with numbers for its answer and bytes for its state
abbrev pub feed_from : FeedEffect → List ℕ → KeptFeed
feed_from e state =
    kept_feed (fed_numbers e.answer e.table.count) (state_after e.answer e.state state) e.table.buffer

-- 8 for bytes that are no sound state's, and all is as it was; else the library's feed
unfoldable pub feed_with : Result State → List ℕ → Table → List ℕ → KeptFeed
feed_with (ok s) state t bytes = feed_from (mirror_feed full s t bytes) state
feed_with (refused why) state t bytes = kept_feed (fed_numbers (Err why) t.count) state t.buffer

-- a feed on the bytes of a state; 8, 7, 14
abbrev pub feed_kept : List ℕ → Table → List ℕ → KeptFeed
feed_kept state t bytes = feed_with (state_from state) state t bytes

-- what the bytes of a state read as after a feed: the library's state after it
unfoldable pub state_fed : Result State → Table → List ℕ → Result State
state_fed (ok s) t bytes = ok (mirror_feed full s t bytes).state
state_fed (refused why) t bytes = refused why

-- ---- next

-- what a next call leaves: its numbers, the bytes of the state and the output
pub record KeptNext : Type 0 where
  pub numbers : WingEvent
  pub state : List ℕ
  pub out : List ℕ

-- numbers, the state's bytes and an output
abbrev pub kept_next : WingEvent → List ℕ → List ℕ → KeptNext
kept_next r state out = record { numbers = r; state = state; out = out }

-- the bytes of a value: those of a string
unfoldable pub value_bytes : NodeValue → List ℕ
value_bytes (integer x) = []
value_bytes (float bits) = []
value_bytes (string s) = s

-- the bytes that an event hands out: those of a string or a body
unfoldable pub event_bytes : Event → List ℕ
event_bytes more = []
event_bytes (value v) = value_bytes v
event_bytes (body b) = b
event_bytes end = []
event_bytes (refusal why) = []

-- how many bytes of a string or a body an answer has
abbrev pub answer_bytes : Answer → ℕ
answer_bytes More = 0
answer_bytes (Integer x) = 0
answer_bytes (Float bits) = 0
answer_bytes (String n) = n
answer_bytes (Body n) = n
answer_bytes End = 0
answer_bytes (NextRefused why) = 0

-- what a next call on a lent store leaves: its answer, the bytes taken, the state and the output
pub record LentNext : Type 0 where
  pub answer : Answer
  pub taken : ℕ
  pub state : State
  pub out : List ℕ

-- the core's answer, with the store and the output
abbrev pub lent_next : Advanced → List ℕ → List ℕ → LentNext
lent_next r store out = record { answer = r.answer; taken = r.taken; state = state_of r.control store; out = out }

-- the library's next call, with the bytes of a string or a body at the front of the output
abbrev pub next_left : State → List ℕ → List ℕ → LentNext
next_left s bytes out =
    let r = next_of s bytes in
    record { answer = r.answer; taken = r.taken; state = r.state; out = over (event_bytes (next_event s bytes)) out }

-- the library's reply and event: numbers, the state's bytes, and the bytes of a string or a body at the front of the output
abbrev pub next_replied : Reply → Event → List ℕ → KeptNext
next_replied r e out =
    kept_next (event_numbers r.answer r.state.control.node r.taken) (state_bytes r.state) (over (event_bytes e) out)

-- a refused call, with all as it was
abbrev pub next_refused : Refusal → ℤ → List ℕ → List ℕ → KeptNext
next_refused why node state out = kept_next (no_event (sent_back why) node 0) state out

-- 14 for more than 65,536 bytes, 9 for an output that is shorter than the longest body; else the library's next
unfoldable pub next_sound : State → List ℕ → List ℕ → List ℕ → KeptNext
next_sound s state bytes out =
    if (leb (length bytes) 65536)
    (if (leb body_limit (length out)) (next_replied (next_of s bytes) (next_event s bytes) out) (next_refused OutputShort s.control.node state out))
    (next_refused NumberOver s.control.node state out)

-- 8 for bytes that are no sound state's
unfoldable pub next_with : Result State → List ℕ → List ℕ → List ℕ → KeptNext
next_with (ok s) state bytes out = next_sound s state bytes out
next_with (refused why) state bytes out = next_refused why (pos 0) state out

-- a next call on the bytes of a state; 8, 14, 9
abbrev pub next_kept : List ℕ → List ℕ → List ℕ → KeptNext
next_kept state bytes out = next_with (state_from state) state bytes out

-- the state after a next call: the library's after it; after 14 or 9 it is as it was
unfoldable pub next_state : State → List ℕ → List ℕ → State
next_state s bytes out = if (leb (length bytes) 65536) (if (leb body_limit (length out)) (next_of s bytes).state s) s

-- what the bytes of a state read as after a next call
unfoldable pub state_next : Result State → List ℕ → List ℕ → Result State
state_next (ok s) bytes out = ok (next_state s bytes out)
state_next (refused why) bytes out = refused why
