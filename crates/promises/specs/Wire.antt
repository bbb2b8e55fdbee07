-- What is promised of each call of the wire, by its arguments, its answer and the lent buffers after it.
use Rattle.std.specs.Prelude.{ℕ, ◌+◌, ◌-◌, ◌*◌, ◌/◌, ◌<◌, ◌≤◌, true, not, ◌≡◌, List, [], ◌∷◌, ◌++◌, ltb, leb, eqb, ℤ, pos, length, take, drop, get_or, replicate, Ok, None, Some}
use Rattle.wing_node.specs.Refusal.{good_beside}
use Rattle.wing_node.specs.declared.refusal.Refusal.{Refusal}
use Rattle.wing_node.specs.Field.{big, field_at}
use Rattle.wing_node.specs.Result.{ok, refused, Result}
use Rattle.wing_node.specs.Signed.{signed}
use Rattle.wing_node.specs.Utf8.{good, utf8}
use Rattle.wing_node.specs.Value.{NodeValue, string}
use Rattle.wing_wire.specs.State.{body_limit, sound_escape, sound_state}
use Rattle.wing_wire.specs.Earlier.{earlier_sound, is_started, carried}
use Rattle.wing_wire.specs.Escape.{decode_of, next_unit}
use Rattle.wing_wire.specs.Stream.{Fed, run}
use Rattle.wing_wire.specs.Units.{units, byte_units, settled, units_of}
use Rattle.wing_wire.specs.Command.{set_bytes}
use Rattle.wing_wire.specs.Meter.{meter_request, readings}
use Rattle.wing_wire.specs.Reader.{Event, event_of, event_in, string_beside, body_beside, refused_next, next_of}
use Rattle.wing_wire.specs.Repeated.{Accepted, fed_state, feed_events, CoreGives}
use Rattle.wing_wire.specs.Answers.{written_result, requested_result, meters_result}
use Rattle.wing_wire.specs.SetOrders.{ReadsAsSet}
use Rattle.wing_wire.specs.declared.state.State.{State}
use Rattle.wing_wire.specs.declared.earlier.State.{State as EarlierState}
use Rattle.wing_wire.specs.declared.earlier.Token.TheVariants.{Number}
use Rattle.wing_wire.specs.declared.token.Class.TheVariants.{LongCount}
use Rattle.wing_wire.specs.declared.state.Escape.{Escape}
use Rattle.wing_wire.specs.declared.escape.Unit.TheVariants.{Nothing, Appended}
use Rattle.wing_wire.specs.declared.escape.NextUnit.{NextUnit}
use Rattle.wing_wire.specs.declared.stream.Advanced.{Advanced}
use Rattle.wing_wire.specs.declared.state.Token.TheVariants.{Between}
use Rattle.wing_wire.specs.declared.unit.Answer.{Answer}
use Rattle.wing_wire.specs.declared.unit.Answer.TheVariants.{More, String as AString, Body as ABody, Refused as AnswerRefused}
use Rattle.wing_wire.specs.declared.reader.Reply.{Reply}
use Rattle.wing_wire.specs.declared.meter.Meter.{Meter}
use Rattle.wing_wire.specs.declared.meter.Requested.{Requested}
use Rattle.wing_wire.specs.declared.meter.MetersRead.{MetersRead}
use Rattle.wing_mirror.specs.Rows.{In}
use Rattle.wing_mirror.specs.Machine.{StreamEvent, stream_event}
use Rattle.promises.specs.Refusals.{string_wrong, body_long, body_empty, state_unsound, output_short, string_long, meters_over, meter_id_last, packet_size, number_over}
use Rattle.promises.specs.Lines.{Line, ◌gives◌, sends, Answers, by}

-- ---- 01's lines, call by call, in the order in which they apply

-- console bytes: an unsound state, too many bytes
abbrev pub next_lines : State → List ℕ → List Line
next_lines s bytes = (not (sound_state s) gives state_unsound) ∷ (not (leb (length bytes) 65536) gives number_over) ∷ []

-- a command of given bytes: an output too short for the whole
abbrev pub command_lines : List ℕ → List ℕ → List Line
command_lines bytes out = (ltb (length out) (length bytes) gives output_short) ∷ []

-- a set order of a string: over 256 bytes, not UTF-8 (02: with its good), too short an output
abbrev pub string_lines : ℤ → List ℕ → List ℕ → List Line
string_lines id s out = (not (leb (length s) 256) gives string_long) ∷ (not (utf8 s) gives string_wrong (good s)) ∷ command_lines (set_bytes id (string s)) out

-- a meter request: over 64 meters, no id left, too short an output
abbrev pub meter_lines : ℕ → ℕ → List Meter → ℕ → List ℕ → List Line
meter_lines port last ms count out =
    (not (leb count 64) gives meters_over) ∷ (eqb last 65535 gives meter_id_last) ∷ command_lines (meter_request port (last + 1) (take count ms)) out

-- a meter packet: outside 4 to 8,192 bytes, too few places for its readings
abbrev pub packet_lines : List ℕ → List ℤ → List Line
packet_lines p out =
    (ltb (length p) 4 gives packet_size) ∷ (ltb 8192 (length p) gives packet_size) ∷ (ltb (length out) (length (readings (drop 4 p))) gives output_short) ∷ []

-- an old decoder state to be carried over (02): one that isn't sound, one that has taken any of the four units after count 0
abbrev pub carry_lines : EarlierState → List Line
carry_lines s = (not (earlier_sound s) gives state_unsound) ∷ (is_started s.control.token gives state_unsound) ∷ []

-- ---- what is promised

-- events so far, and one more
abbrev pub with_event : ℤ → Event → List StreamEvent → List StreamEvent
with_event node e rs = rs ++ (stream_event node e ∷ [])

-- the same by an answer and the store that holds its bytes
abbrev pub listed : ℤ → Answer → List ℕ → List StreamEvent → List StreamEvent
listed node a s rs = with_event node (event_of a s s) rs

-- 01: string (256 bytes) or body (4,096 bytes), zero-filled, stands beside the answer; with any other answer, refusals included, these
-- bytes are all 0: the bytes that the units gave stand in some store
pub record Beside (reply : Reply) : Type 0 where
  pub store : List ℕ
  pub string : reply.string ≡ string_beside reply.answer store
  pub body : reply.body ≡ body_beside reply.answer store
  -- with any other answer these bytes are all 0, and so are those after the string's or the body's own
  pub no_string : ((n : ℕ) → reply.answer ≡ AString n → ⊥) → reply.string ≡ replicate 256 0
  pub no_body : ((n : ℕ) → reply.answer ≡ ABody n → ⊥) → reply.body ≡ replicate body_limit 0
  pub string_rest : (n : ℕ) → reply.answer ≡ AString n → drop n reply.string ≡ replicate (256 - n) 0
  pub body_rest : (n : ℕ) → reply.answer ≡ ABody n → drop n reply.body ≡ replicate (body_limit - n) 0

-- a next call
pub record NextCall (s : State) (bytes : List ℕ) (reply : Reply) : Type 0 where
  -- it is the call that SetOrders, Repeated and CoreGives of the wire's specs/ speak of
  pub same : reply ≡ next_of s bytes
  -- demand 1: 8, 14, and then nothing is taken and the state is as it was
  pub sent_back : (why : Refusal) → sends (next_lines s bytes) ≡ refused why → reply ≡ refused_next why s
  -- with that refusal, and then nothing is taken and the state is as it was
  pub as_it_was : (why : Refusal) → sends (next_lines s bytes) ≡ refused why → (reply.answer ≡ AnswerRefused why) × (reply.taken ≡ 0) × (reply.state ≡ s)
  -- else the decoder's own refusals are 1 with the string's good, 2 and 3, each with its token taken; when they come, specs/Tokens of the wire says
  pub refusals : sends (next_lines s bytes) ≡ ok tt → (why : Refusal) → reply.answer ≡ AnswerRefused why → In why (string_wrong (good_beside why) ∷ body_long ∷ body_empty ∷ []) × (reply.state.control.token ≡ Between)
  -- what stands beside the answer
  pub beside : Beside reply
  -- 01: it stops after the unit that completes an event or refusal: no fewer bytes would have given it
  pub stops : sends (next_lines s bytes) ≡ ok tt → (k : ℕ) → k < reply.taken → (next_of s (take k bytes)).answer ≡ More
  pub within : reply.taken ≤ length bytes
  -- demand 2: 'more' only when all bytes are taken and nothing is pending
  pub more : reply.answer ≡ More → (reply.taken ≡ length bytes) × (reply.state.control.escape.pending ≡ None)
  -- 01: feed runs next until 'more': where the reply says so, the feed of these bytes leaves its state and gives nothing more
  pub ends : sends (next_lines s bytes) ≡ ok tt → reply.answer ≡ More → (rs : List StreamEvent) →
      feed_events with_event (fed_state with_event s rs) bytes ≡ fed_state with_event reply.state rs
  -- any other event comes next in the feed, at the node that is current; then come those of the bytes that were not taken
  pub again : sends (next_lines s bytes) ≡ ok tt → (reply.answer ≡ More → ⊥) → (rs : List StreamEvent) →
      feed_events with_event (fed_state with_event s rs) bytes ≡
      feed_events with_event (fed_state with_event reply.state (with_event reply.state.control.node (event_in reply) rs)) (drop reply.taken bytes)

-- bytes in two pieces, at any split and from any state, are the bytes at once: a token cut between two calls goes on where it was
abbrev pub PiecesJoin : Type 0
PiecesJoin = (x : Fed (List StreamEvent)) (a b : List ℕ) → feed_events with_event x (a ++ b) ≡ feed_events with_event (feed_events with_event x a) b

-- the core, over the control and the lent store of a state: what next gives from the same state and bytes, where it is not sent back
abbrev pub AdvanceCall : State → List ℕ → Advanced → List ℕ → Type 0
AdvanceCall s bytes answer store = Accepted s bytes → CoreGives (run answer store) s bytes

-- decode_next
pub record DecodeCall (e : Escape) (bytes : List ℕ) (at : ℕ) (answer : NextUnit) : Type 0 where
  -- 01: a pending byte is the next unit, before any byte is read, and is appended to the body
  pub pending : (u : ℕ) → e.pending ≡ Some u → answer ≡ next_unit (settled e) (Appended u) at
  -- else the byte at the place gives its unit or none; past the end there is none
  pub byte : e.pending ≡ None → at < length bytes → answer ≡ next_unit (decode_of e (get_or bytes at 0)).escape (decode_of e (get_or bytes at 0)).unit (at + 1)
  pub end : e.pending ≡ None → length bytes ≤ at → answer ≡ next_unit e Nothing at
  -- the units that the bytes from the place on give are this one, if there is one, and those that come after it
  pub first : let after = units_of answer.escape (drop answer.at bytes) in units_of e (drop at bytes) ≡ units (byte_units answer.unit ++ after.units) after.escape
  -- sound escapes stay sound
  pub sound : sound_escape e ≡ true → sound_escape answer.escape ≡ true

-- an old decoder state carried over (02): 8; else with its units left, stored bytes and all else the same
pub record CarryCall (s : EarlierState) (answer : Result State) : Type 0 where
  pub answered : answer ≡ by (carry_lines s) (carried s)
  -- and the state is sound
  pub sound : (t : State) → answer ≡ ok t → sound_state t ≡ true
  -- 02: the escapes, the node and the stored bytes are the same
  pub kept : (t : State) → answer ≡ ok t → (t.control.escape ≡ s.control.escape) × (t.control.node ≡ s.control.node) × (t.store ≡ s.store)
  -- an old state was sound exactly if it is sound carried over
  pub was : earlier_sound s ≡ sound_state (carried s)
  -- 02: each that was sound is carried over, unless it stands within the four units after a count 0 with fewer than four left
  pub taken : sound_state (carried s) ≡ true → ((left v : ℕ) → s.control.token ≡ Number LongCount left v → left ≡ 4) → answer ≡ ok (carried s)
  -- 02: one that has taken any of the four units gets 8
  pub begun : (left v : ℕ) → s.control.token ≡ Number LongCount left v → left < 4 → answer ≡ refused state_unsound

-- a command: sent back as its lines have it, with the output as it was and what else must stay; else these bytes at the front of the output,
-- whose bytes past them are not altered
pub record Writes (lines : List Line) (bytes out : List ℕ) (answer : Result ℕ) (after : List ℕ) (Stays : Type 0) : Type 0 where
  pub answered : Answers lines bytes (written_result answer after) ((after ≡ out) × Stays)
  pub rest : (n : ℕ) → answer ≡ Ok n → drop n after ≡ drop n out
  -- the number told is that of these bytes
  pub told : (n : ℕ) → answer ≡ Ok n → n ≡ length bytes

-- a command of given bytes: 9
abbrev pub CommandCall : List ℕ → List ℕ → Result ℕ → List ℕ → Type 0
CommandCall bytes out answer after = Writes (command_lines bytes out) bytes out answer after (Unit {0})

-- a set order: its lines; and demand 2: what was written is read as that value at that node
pub record SetOrder (lines : List Line) (id : ℤ) (v : NodeValue) (out : List ℕ) (answer : Result ℕ) (after : List ℕ) : Type 0 where
  pub writes : Writes lines (set_bytes id v) out answer after (Unit {0})
  pub reads : ReadsAsSet id v answer after

-- a meter request: 11, 12, 9; else its bytes and the id after the last one
pub record MeterCall (port last : ℕ) (ms : List Meter) (count : ℕ) (out : List ℕ) (answer : Result Requested) (after : List ℕ) : Type 0 where
  pub answered : Answers (meter_lines port last ms count out) (record { bytes = meter_request port (last + 1) (take count ms); id = last + 1 }) (requested_result answer after) (after ≡ out)
  pub rest : (n id : ℕ) → answer ≡ Ok (record { len = n; id = id }) → drop n after ≡ drop n out
  -- the number told is that of its bytes
  pub told : (n id : ℕ) → answer ≡ Ok (record { len = n; id = id }) → n ≡ length (meter_request port (last + 1) (take count ms))

-- a meter packet: 13, 9; else its id and readings, and the readings' buffer past them as it was
pub record PacketCall (p : List ℕ) (out : List ℤ) (answer : Result MetersRead) (after : List ℤ) : Type 0 where
  pub answered : Answers (packet_lines p out) (record { id = big (take 2 p); readings = readings (drop 4 p) }) (meters_result answer after) (after ≡ out)
  pub rest : (id n : ℕ) → answer ≡ Ok (record { id = id; count = n }) → drop n after ≡ drop n out
  -- 01: two bytes for each after the first four; an odd last byte is dropped
  pub told : (id n : ℕ) → answer ≡ Ok (record { id = id; count = n }) → n ≡ (length p - 4) / 2
  -- 01: each reading is the signed 16-bit field at its place
  pub each : (id n : ℕ) → answer ≡ Ok (record { id = id; count = n }) → (k : ℕ) → k < n → get_or after k (pos 0) ≡ signed 15 (field_at 2 p (4 + 2 * k))
