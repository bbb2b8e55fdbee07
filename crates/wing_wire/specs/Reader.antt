-- The next call: 01's events and refusals, and what stands beside them.
use Rattle.std.specs.Prelude.{ℕ, List, [], ◌∷◌, leb, length, take, replicate}
use Rattle.wing_node.specs.Bool.{if}
use Rattle.wing_node.specs.Value.{NodeValue, integer, float, string}
use Rattle.wing_node.specs.declared.refusal.Refusal.{Refusal}
use Rattle.wing_wire.specs.State.{body_limit, sound_state}
use Rattle.wing_wire.specs.Stream.{Run, advance_of, released}
use Rattle.wing_wire.specs.declared.state.State.{State}
use Rattle.wing_wire.specs.declared.unit.Answer.{Answer}
use Rattle.wing_wire.specs.declared.unit.Answer.TheVariants.{More, Integer, Float, String, Body, End, Refused}
use Rattle.wing_wire.specs.declared.reader.Reply.{Reply}
use Rattle.wing_node.specs.declared.refusal.Refusal.TheVariants.{NumberOver, StateUnsound}

-- 01's events and refusals
pub data Event : Type 0 where
  more : Event
  value : NodeValue → Event
  body : List ℕ → Event
  end : Event
  refused : Refusal → Event

-- what each case of the answer is, by the bytes of the string and of the body beside it
unfoldable pub event_of : Answer → List ℕ → List ℕ → Event
event_of More s b = more
event_of (Integer x) s b = value (integer x)
event_of (Float bits) s b = value (float bits)
event_of (String n) s b = value (string (take n s))
event_of (Body n) s b = body (take n b)
event_of End s b = end
event_of (Refused why) s b = refused why

-- s over the front of d, as far as d reaches
abbrev pub over : List ℕ → List ℕ → List ℕ
over [] d = d
over (a ∷ s) [] = []
over (a ∷ s) (b ∷ d) = a ∷ over s d

-- w bytes: those of s, zero-filled
abbrev pub filled : ℕ → List ℕ → List ℕ
filled w s = over s (replicate w 0)

-- 01: string (256 bytes) or body (4,096 bytes), zero-filled, stands beside the answer; with any other answer these bytes are all 0
unfoldable pub string_beside : Answer → List ℕ → List ℕ
string_beside More s = replicate 256 0
string_beside (Integer x) s = replicate 256 0
string_beside (Float bits) s = replicate 256 0
string_beside (String n) s = filled 256 (take n s)
string_beside (Body n) s = replicate 256 0
string_beside End s = replicate 256 0
string_beside (Refused why) s = replicate 256 0

-- 01: the same of the body
unfoldable pub body_beside : Answer → List ℕ → List ℕ
body_beside More s = replicate body_limit 0
body_beside (Integer x) s = replicate body_limit 0
body_beside (Float bits) s = replicate body_limit 0
body_beside (String n) s = replicate body_limit 0
body_beside (Body n) s = filled body_limit (take n s)
body_beside End s = replicate body_limit 0
body_beside (Refused why) s = replicate body_limit 0

-- a refused call: nothing taken, the state as it was
abbrev pub refused_next : Refusal → State → Reply
refused_next why s = record { answer = Refused why; taken = 0; state = s; string = replicate 256 0; body = replicate body_limit 0 }

-- the reply to a run: the store cleared of what was given out
abbrev pub next_from : Run → Reply
next_from r =
    let a = r.effect.answered.answer in
    record {
      answer = a;
      taken = r.taken;
      state = record { control = r.effect.answered.control; store = released a r.effect.store };
      string = string_beside a r.effect.store;
      body = body_beside a r.effect.store;
    }

-- 01: 8 for an unsound state, then 14 for more than 65,536 bytes
unfoldable pub next_of : State → List ℕ → Reply
next_of s bytes =
    if (sound_state s)
    (if (leb (length bytes) 65536) (next_from (advance_of s.control s.store bytes)) (refused_next NumberOver s))
    (refused_next StateUnsound s)

-- the event or refusal that a reply says, by the answer and the arrays beside it
abbrev pub event_in : Reply → Event
event_in r = event_of r.answer r.string r.body

-- 01's event or refusal of a next call, with its number or value, by the bytes that the units gave
unfoldable pub next_event : State → List ℕ → Event
next_event s bytes =
    let h = (advance_of s.control s.store bytes).effect in
    if (sound_state s) (if (leb (length bytes) 65536) (event_of h.answered.answer h.store h.store) (refused NumberOver)) (refused StateUnsound)
