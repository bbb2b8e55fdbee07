-- 01, Bytes and their outcomes: the cases marked #, one table; and 02's counts. A fresh state reads each that is read.
-- Then boundaries of 01's rules for states, escapes, requests and meters, each read by a fresh state where no other is named.
use Rattle.std.specs.Prelude.{ℕ, Bool, true, false, List, [], ◌∷◌, ◌++◌, ℤ, pos, negsuc, length, drop, replicate, Option, None, Some, Ok}
use Rattle.wing_node.specs.Result.{Result, ok}
use Rattle.wing_node.specs.Value.{NodeValue, integer, string}
use Rattle.wing_node.specs.declared.refusal.Refusal.TheVariants.{StringNotUtf8, BodyEmpty, BodyLong}
use Rattle.wing_wire.specs.State.{body_limit, escape, control, state_of, fresh_control, fresh_state, sound_state}
use Rattle.wing_wire.specs.Reader.{Event, more, value, body, refused, event_of, next_of}
use Rattle.wing_wire.specs.Units.{StreamUnit, stream_unit, units_of}
use Rattle.wing_wire.specs.Answers.{NodeEvent, value_at, reply_result}
use Rattle.wing_wire.specs.Command.{set_bytes, request_bytes}
use Rattle.wing_wire.specs.Meter.{meters_bytes, meter_request, keep_alive, keep_alives, PacketEffect, packet_effect, packet_of}
use Rattle.wing_wire.specs.declared.token.Class.TheVariants.{Int16, LongCount}
use Rattle.wing_wire.specs.declared.state.Escape.{Escape}
use Rattle.wing_wire.specs.declared.state.Token.{Token}
use Rattle.wing_wire.specs.declared.state.Token.TheVariants.{Between, Number, String, Body}
use Rattle.wing_wire.specs.declared.meter.Meter.TheVariants.{Channel, Aux, Bus, Main, Matrix, Dca, Fx, Source, Output, Monitor, Rta, Channel2, Aux2, Bus2, Main2, Matrix2}

-- what a case gives: units, a channel, the event of a next call, the bytes of a command, or what a packet leaves
-- and the event at its node, or whether a state is sound
pub data Outcome : Type 0 where
  units : List StreamUnit → Outcome
  channel : ℤ → Outcome
  event : Event → Outcome
  at_node : Result NodeEvent → Outcome
  written : List ℕ → Outcome
  packet : PacketEffect → Outcome
  sound : Bool → Outcome

-- what the definitions give, and what 01 wants
pub record Case : Type 0 where
  pub got : Outcome
  pub wanted : Outcome

-- a case by both of its sides
abbrev pub case : Outcome → Outcome → Case
case got wanted = record { got = got; wanted = wanted }

-- a unit that is appended to the body
abbrev pub appended_unit : ℕ → StreamUnit
appended_unit u = stream_unit u true

-- a unit of which nothing is appended
abbrev pub bare_unit : ℕ → StreamUnit
bare_unit u = stream_unit u false

-- the units that bytes give; feed-units (proofs/Reading/ByUnits.antt) says that a feed takes exactly these
unfoldable pub units_are : List ℕ → List StreamUnit → Case
units_are bytes us = case (units (units_of fresh_control.escape bytes).units) (units us)

-- the channel after bytes
unfoldable pub channel_is : List ℕ → ℤ → Case
channel_is bytes z = case (channel (units_of fresh_control.escape bytes).escape.channel) (channel z)

-- the event or refusal of a next call
unfoldable pub reads : List ℕ → Event → Case
reads bytes e =
    let n = next_of fresh_state bytes in
    case (event (event_of n.answer n.string n.body)) (event e)

-- the same at the node that is current after it
unfoldable pub reads_at : List ℕ → ℤ → NodeValue → Case
reads_at bytes node v = case (at_node (reply_result (next_of fresh_state bytes))) (at_node (ok (value_at node v)))

-- the event or refusal of a next call from a state at node 0 with this token in progress, of which nothing is stored
unfoldable pub reads_in : Token → List ℕ → Event → Case
reads_in t bytes e =
    let n = next_of (state_of (control fresh_control.escape (pos 0) t) (replicate body_limit 0)) bytes in
    case (event (event_of n.answer n.string n.body)) (event e)

-- whether a state with these escapes, this token and this store is sound; the rules for it take a store of any length
unfoldable pub state_is : Escape → Token → List ℕ → Bool → Case
state_is e t store b = case (sound (sound_state (state_of (control e (pos 0) t) store))) (sound b)

-- by the escapes: whether escaped, the channel, what is pending
abbrev pub escapes_are : Bool → ℤ → Option ℕ → Bool → Case
escapes_are x c p b = state_is (escape x c p) Between [] b

-- by the token and the store
abbrev pub token_is : Token → List ℕ → Bool → Case
token_is t store b = state_is fresh_control.escape t store b

-- the bytes of a command
abbrev pub writes : List ℕ → List ℕ → Case
writes got bs = case (written got) (written bs)

-- the bytes of an order that sets node 7
unfoldable pub set_writes : ℤ → List ℕ → Case
set_writes x bs = case (written (set_bytes (pos 7) (integer x))) (written bs)

-- what follows the id in a set order of node 7
unfoldable pub set_ends : ℤ → List ℕ → Case
set_ends x bs = case (written (drop 5 (set_bytes (pos 7) (integer x)))) (written bs)

-- the id and the readings of a packet, in an output of two readings
unfoldable pub packet_reads : List ℕ → ℕ → List ℤ → Case
packet_reads p id rs = case (packet (packet_of p (pos 0 ∷ pos 0 ∷ []))) (packet (packet_effect (Ok (record { id = id; count = length rs })) rs))

-- 01's cases, a comment line each in 01's words
unfoldable pub cases : List Case
cases =
    -- fresh: df 41 → 41
    units_are (0xdf ∷ 0x41 ∷ []) (appended_unit 0x41 ∷ []) ∷
    -- df d1 df 41 → df, 41
    units_are (0xdf ∷ 0xd1 ∷ 0xdf ∷ 0x41 ∷ []) (appended_unit 0xdf ∷ appended_unit 0x41 ∷ []) ∷
    -- df df de → df, df, one appended
    units_are (0xdf ∷ 0xdf ∷ 0xde ∷ []) (bare_unit 0xdf ∷ appended_unit 0xdf ∷ []) ∷
    -- df dd → channel 13
    channel_is (0xdf ∷ 0xdd ∷ []) (pos 13) ∷
    -- df de → unit df
    units_are (0xdf ∷ 0xde ∷ []) (appended_unit 0xdf ∷ []) ∷
    -- 3f → 63
    reads (0x3f ∷ []) (value (integer (pos 63))) ∷
    -- 40 → none
    reads (0x40 ∷ []) more ∷
    -- d3 ff fe → −2
    reads (0xd3 ∷ 0xff ∷ 0xfe ∷ []) (value (integer (negsuc 1))) ∷
    -- c0 41 → "A"
    reads (0xc0 ∷ 0x41 ∷ []) (value (string (0x41 ∷ []))) ∷
    -- 80 80 → 1
    reads (0x80 ∷ 0x80 ∷ []) (refused (StringNotUtf8 0)) ∷
    -- 02: 83 41 c3 a9 80 → 1, three bytes good
    reads (0x83 ∷ 0x41 ∷ 0xc3 ∷ 0xa9 ∷ 0x80 ∷ []) (refused (StringNotUtf8 3)) ∷
    -- set 7 to 63: d7 00 00 00 07 3f
    set_writes (pos 63) (0xd7 ∷ 0x00 ∷ 0x00 ∷ 0x00 ∷ 0x07 ∷ 0x3f ∷ []) ∷
    -- to 64: ends d3 00 40
    set_ends (pos 64) (0xd3 ∷ 0x00 ∷ 0x40 ∷ []) ∷
    -- to 223: ends d3 00 df de
    set_ends (pos 223) (0xd3 ∷ 0x00 ∷ 0xdf ∷ 0xde ∷ []) ∷
    -- to −32769: ends d4 ff ff 7f ff
    set_ends (negsuc 32768) (0xd4 ∷ 0xff ∷ 0xff ∷ 0x7f ∷ 0xff ∷ []) ∷
    -- packet 00 01 00 00 ff ff 7f ff 05 → id 1: −1, 32767
    packet_reads (0x00 ∷ 0x01 ∷ 0x00 ∷ 0x00 ∷ 0xff ∷ 0xff ∷ 0x7f ∷ 0xff ∷ 0x05 ∷ []) 1 (negsuc 0 ∷ pos 32767 ∷ []) ∷
    -- 02: count 0, then the 32-bit count 1, its unit 41 → body 41
    reads (0xdf ∷ 0xde ∷ 0x00 ∷ 0x00 ∷ 0x00 ∷ 0x00 ∷ 0x00 ∷ 0x01 ∷ 0x41 ∷ []) (body (0x41 ∷ [])) ∷
    -- 02: both counts 0 → 3
    reads (0xdf ∷ 0xde ∷ 0x00 ∷ 0x00 ∷ 0x00 ∷ 0x00 ∷ 0x00 ∷ 0x00 ∷ []) (refused BodyEmpty) ∷
    -- 02: count 0, then a 32-bit count over 4,096 → none while its units have not come
    reads (0xdf ∷ 0xde ∷ 0x00 ∷ 0x00 ∷ 0x00 ∷ 0x01 ∷ 0x00 ∷ 0x00 ∷ 0x41 ∷ []) more ∷
    -- 02: the count has 32 bits: after 01000000 a unit gives none
    reads (0xdf ∷ 0xde ∷ 0x00 ∷ 0x00 ∷ 0x01 ∷ 0x00 ∷ 0x00 ∷ 0x00 ∷ 0x41 ∷ []) more ∷
    -- the last unit of a count of 4,096 → the body; of 4,097 and of ffffffff → 2
    reads_in (Body 0 4096 1) (0x41 ∷ []) (body (0x41 ∷ [])) ∷
    reads_in (Body 0 4097 1) (0x41 ∷ []) (refused BodyLong) ∷
    reads_in (Body 0 0xffffffff 1) (0x41 ∷ []) (refused BodyLong) ∷
    -- channel 0 is a channel: df d0 df 41 → df, 41
    units_are (0xdf ∷ 0xd0 ∷ 0xdf ∷ 0x41 ∷ []) (appended_unit 0xdf ∷ appended_unit 0x41 ∷ []) ∷
    -- fresh: current node 0; d7 ff ff ff fe: node −2
    reads_at (0x05 ∷ []) (pos 0) (integer (pos 5)) ∷
    reads_at (0xd7 ∷ 0xff ∷ 0xff ∷ 0xff ∷ 0xfe ∷ 0x05 ∷ []) (negsuc 1) (integer (pos 5)) ∷
    -- sound: channel −1 to 13
    escapes_are false (negsuc 1) None false ∷
    escapes_are false (negsuc 0) None true ∷
    escapes_are true (pos 13) None true ∷
    escapes_are false (pos 14) None false ∷
    -- a pending byte, whichever it is, only when unescaped with channel at least 0
    escapes_are false (pos 0) (Some 0xde) true ∷
    escapes_are false (negsuc 0) (Some 0x05) false ∷
    escapes_are true (pos 0) (Some 0x05) false ∷
    -- between tokens nothing is stored, to the last of 4,096 bytes
    token_is Between (replicate 4096 0) true ∷
    token_is Between (replicate 4095 0 ++ (1 ∷ [])) false ∷
    -- fewer units collected than the token wants, and a value no longer than these: of two units one or none, of four none to three
    token_is (Number Int16 3 0) [] false ∷
    token_is (Number Int16 2 0) [] true ∷
    token_is (Number Int16 2 1) [] false ∷
    token_is (Number Int16 1 0xff) [] true ∷
    token_is (Number Int16 1 0x100) [] false ∷
    token_is (Number Int16 0 0) [] false ∷
    token_is (Number LongCount 5 0) [] false ∷
    token_is (Number LongCount 4 0) [] true ∷
    token_is (Number LongCount 1 0xffffff) [] true ∷
    -- a string wants at most 256 units; as many bytes are stored as units collected, unused ones are 0
    token_is (String 256 256) [] true ∷
    token_is (String 257 257) [] false ∷
    token_is (String 1 2) [] false ∷
    token_is (String 1 0) [] false ∷
    token_is (String 3 1) (0x41 ∷ 0x42 ∷ 0x00 ∷ []) true ∷
    token_is (String 3 1) (0x41 ∷ 0x42 ∷ 0x43 ∷ []) false ∷
    -- a body: no more bytes stored than units collected, unused ones are 0
    token_is (Body 2 4 2) (0x41 ∷ 0x41 ∷ 0x00 ∷ []) true ∷
    token_is (Body 3 4 2) [] false ∷
    token_is (Body 1 4 2) (0x41 ∷ 0x41 ∷ []) false ∷
    token_is (Body 0 4 0) [] false ∷
    token_is (Body 0 4 5) [] false ∷
    -- none stored for a count over 4,096
    token_is (Body 1 4096 4095) (0x41 ∷ []) true ∷
    token_is (Body 1 4097 4096) (0x41 ∷ []) false ∷
    token_is (Body 0 4097 4096) [] true ∷
    token_is (Body 0 0xffffffff 0xffffffff) [] true ∷
    token_is (Body 1 0xffffffff 2) (0x41 ∷ []) false ∷
    -- definition request: da dd for id 0, else d7 id dd; data request dc for dd; every df in an id is followed by de
    writes (request_bytes 0xdd (pos 0)) (0xda ∷ 0xdd ∷ []) ∷
    writes (request_bytes 0xdd (pos 223)) (0xd7 ∷ 0x00 ∷ 0x00 ∷ 0x00 ∷ 0xdf ∷ 0xde ∷ 0xdd ∷ []) ∷
    writes (request_bytes 0xdc (negsuc 0)) (0xd7 ∷ 0xff ∷ 0xff ∷ 0xff ∷ 0xff ∷ 0xdc ∷ []) ∷
    -- items a0 to a8 with index, a9 and aa alone, ab to af with index
    writes (meters_bytes (Channel 1 ∷ Aux 2 ∷ Bus 3 ∷ Main 4 ∷ Matrix 5 ∷ Dca 6 ∷ Fx 7 ∷ Source 8 ∷ Output 9 ∷ Monitor ∷ Rta ∷ Channel2 10 ∷ Aux2 11 ∷ Bus2 12 ∷ Main2 13 ∷ Matrix2 14 ∷ []))
    (0xa0 ∷ 1 ∷ 0xa1 ∷ 2 ∷ 0xa2 ∷ 3 ∷ 0xa3 ∷ 4 ∷ 0xa4 ∷ 5 ∷ 0xa5 ∷ 6 ∷ 0xa6 ∷ 7 ∷ 0xa7 ∷ 8 ∷ 0xa8 ∷ 9 ∷ 0xa9 ∷ 0xaa ∷ 0xab ∷ 10 ∷ 0xac ∷ 11 ∷ 0xad ∷ 12 ∷ 0xae ∷ 13 ∷ 0xaf ∷ 14 ∷ []) ∷
    -- meter request: df d3 d3 port d4 id port dc, items, de df d1; of port 1234, id 223, index 223
    writes (meter_request 0x1234 223 (Channel 223 ∷ Monitor ∷ []))
    (0xdf ∷ 0xd3 ∷ 0xd3 ∷ 0x12 ∷ 0x34 ∷ 0xd4 ∷ 0x00 ∷ 0xdf ∷ 0xde ∷ 0x12 ∷ 0x34 ∷ 0xdc ∷ 0xa0 ∷ 0xdf ∷ 0xde ∷ 0xa9 ∷ 0xde ∷ 0xdf ∷ 0xd1 ∷ []) ∷
    -- the same of port df12
    writes (meter_request 0xdf12 1 []) (0xdf ∷ 0xd3 ∷ 0xd3 ∷ 0xdf ∷ 0xde ∷ 0x12 ∷ 0xd4 ∷ 0x00 ∷ 0x01 ∷ 0xdf ∷ 0xde ∷ 0x12 ∷ 0xdc ∷ 0xde ∷ 0xdf ∷ 0xd1 ∷ []) ∷
    -- keep-alive for ids from last to 1: df d3 d4 id port df d1
    writes (keep_alives 0x1234 2) (0xdf ∷ 0xd3 ∷ 0xd4 ∷ 0x00 ∷ 0x02 ∷ 0x12 ∷ 0x34 ∷ 0xdf ∷ 0xd1 ∷ 0xdf ∷ 0xd3 ∷ 0xd4 ∷ 0x00 ∷ 0x01 ∷ 0x12 ∷ 0x34 ∷ 0xdf ∷ 0xd1 ∷ []) ∷
    writes (keep_alive 0xdf12 223) (0xdf ∷ 0xd3 ∷ 0xd4 ∷ 0x00 ∷ 0xdf ∷ 0xde ∷ 0xdf ∷ 0xde ∷ 0x12 ∷ 0xdf ∷ 0xd1 ∷ []) ∷ []
