-- What each answer of the wire comes to in 01's words: what a call that is taken gives, or the number with which it is sent back.
use Rattle.std.specs.Prelude.{ℕ, List, ℤ, take, Ok, Err}
use Rattle.wing_node.specs.Result.{Result, ok, refused}
use Rattle.wing_node.specs.Value.{NodeValue}
use Rattle.wing_wire.specs.Reader.{Event, more, value, body, end, refused as refusal, event_of}
use Rattle.wing_wire.specs.declared.meter.Requested.{Requested}
use Rattle.wing_wire.specs.declared.meter.MetersRead.{MetersRead}
use Rattle.wing_wire.specs.declared.unit.Answer.{Answer}
use Rattle.wing_wire.specs.declared.reader.Reply.{Reply}

-- 01, Writers: the bytes written, the first n of the output after the call
unfoldable pub written_result : Result ℕ → List ℕ → Result (List ℕ)
written_result (Ok n) out = ok (take n out)
written_result (Err why) out = refused why

-- what a meter request that is taken gives: the bytes written and the new meter id
pub record MeterRequest : Type 0 where
  pub bytes : List ℕ
  pub id : ℕ

-- 01, Meters and requests: the bytes, the first n of the output after the call, and id = last id + 1
unfoldable pub requested_result : Result Requested → List ℕ → Result MeterRequest
requested_result (Ok r) out = Ok (record { bytes = take r.len out; id = r.id })
requested_result (Err why) out = Err why

-- what a meter packet that is taken gives: its meter id and its readings
pub record MeterPacket : Type 0 where
  pub id : ℕ
  pub readings : List ℤ

-- 01: packet: id, readings. The readings are the first n of the lent 16-bit output after the call
unfoldable pub meters_result : Result MetersRead → List ℤ → Result MeterPacket
meters_result (Ok r) out = Ok (record { id = r.id; readings = take r.count out })
meters_result (Err why) out = Err why

-- 01's events. A value belongs to the current node
pub data NodeEvent : Type 0 where
  wants_more : NodeEvent
  value_at : ℤ → NodeValue → NodeEvent
  a_body : List ℕ → NodeEvent
  an_end : NodeEvent

-- an event at the node that is current after it, or the refusal
unfoldable pub event_at : ℤ → Event → Result NodeEvent
event_at node more = ok wants_more
event_at node (value v) = ok (value_at node v)
event_at node (body b) = ok (a_body b)
event_at node end = ok an_end
event_at node (refusal why) = refused why

-- an answer by the node of the state after it and the string and body beside it
unfoldable pub answer_result : Answer → ℤ → List ℕ → List ℕ → Result NodeEvent
answer_result a node s b = event_at node (event_of a s b)

-- what the reply to a next call comes to
unfoldable pub reply_result : Reply → Result NodeEvent
reply_result r = answer_result r.answer r.state.control.node r.string r.body
