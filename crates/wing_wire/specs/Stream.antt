-- Bytes one after the other: what each makes of the control and the store, up to the first answer and through all of them.
use Rattle.std.specs.Prelude.{ℕ, ◌+◌, Bool, true, false, List, [], ◌∷◌, ℤ, Option, None, Some}
use Rattle.wing_node.specs.Bool.{if}
use Rattle.wing_wire.specs.State.{escape, control}
use Rattle.wing_wire.specs.Escape.{decode_of}
use Rattle.wing_wire.specs.Unit.{UnitEffect, cleared, unit_of}
use Rattle.wing_wire.specs.declared.state.Escape.{Escape}
use Rattle.wing_wire.specs.declared.state.Control.{Control}
use Rattle.wing_wire.specs.declared.escape.Unit.{Unit}
use Rattle.wing_wire.specs.declared.escape.Unit.TheVariants.{Nothing, Bare, Appended}
use Rattle.wing_wire.specs.declared.unit.Answer.{Answer}
use Rattle.wing_wire.specs.declared.unit.Answer.TheVariants.{More, Integer, Float, String, Body, End, Refused}
use Rattle.wing_wire.specs.declared.stream.Answered.{Answered}
use Rattle.wing_wire.specs.declared.stream.Advanced.{Advanced}

-- an answer and the control after it
abbrev pub answered : Answer → Control → Answered
answered answer c = record { answer = answer; control = c }

-- an answer, with the control and the store after it
pub record StepEffect : Type 0 where
  pub answered : Answered
  pub store : List ℕ

-- the same with the store
abbrev pub step_effect : Answered → List ℕ → StepEffect
step_effect t s = record { answered = t; store = s }

-- no answer yet
abbrev pub no_answer : Control → List ℕ → StepEffect
no_answer c s = step_effect (answered More c) s

-- 01's 'more'
abbrev pub is_more : Answer → Bool
is_more More = true
is_more (Integer x) = false
is_more (Float bits) = false
is_more (String n) = false
is_more (Body n) = false
is_more End = false
is_more (Refused why) = false

-- what a unit gave, with the escapes as they now are
abbrev pub after_unit : Escape → UnitEffect → StepEffect
after_unit e o = step_effect (answered o.taken.answer (control e o.taken.node o.taken.token)) o.store

-- 01: a pending byte is the next unit and is appended to the body
abbrev pub pending_of : Option ℕ → Control → List ℕ → StepEffect
pending_of None c s = no_answer c s
pending_of (Some u) c s = after_unit (escape c.escape.escaped c.escape.channel None) (unit_of c.node c.token s u true)

-- the same of the control's own pending byte, if it has one
unfoldable pub settle_of : Control → List ℕ → StepEffect
settle_of c s = pending_of c.escape.pending c s

-- the unit that a byte gave, if any, taken by the token in progress
abbrev pub given_of : Unit → Escape → Control → List ℕ → StepEffect
given_of Nothing e c s = no_answer (control e c.node c.token) s
given_of (Bare u) e c s = after_unit e (unit_of c.node c.token s u false)
given_of (Appended u) e c s = after_unit e (unit_of c.node c.token s u true)

-- the unit that a byte gives
unfoldable pub first_of : Control → List ℕ → ℕ → StepEffect
first_of c s b = given_of (decode_of c.escape b).unit (decode_of c.escape b).escape c s

-- after a unit that completes nothing comes the pending byte
unfoldable pub follow_of : StepEffect → StepEffect
follow_of h = if (is_more h.answered.answer) (settle_of h.answered.control h.store) h

-- one byte
abbrev pub step_of : Control → List ℕ → ℕ → StepEffect
step_of c s b = follow_of (first_of c s b)

-- what the last step left, and the number of bytes taken
pub record Run : Type 0 where
  pub effect : StepEffect
  pub taken : ℕ

-- one byte more, unless there is an answer already
abbrev pub onward : Run → ℕ → Run
onward r b = if (is_more r.effect.answered.answer) (record { effect = step_of r.effect.answered.control r.effect.store b; taken = r.taken + 1 }) r

-- bytes one after the other, up to an answer: after one, onward takes no more
unfoldable pub run_of : Run → List ℕ → Run
run_of r [] = r
run_of r (b ∷ bs) = run_of (onward r b) bs

-- 01: bytes up to the unit that completes an event or refusal; more only when all bytes are taken and nothing is pending
unfoldable pub advance_of : Control → List ℕ → List ℕ → Run
advance_of c s bytes = run_of (record { effect = settle_of c s; taken = 0 }) bytes

-- what the core answers, as a run
abbrev pub run : Advanced → List ℕ → Run
run r s = record { effect = step_effect (answered r.answer r.control) s; taken = r.taken }

-- the store once the bytes of an answer's string or body are given out
abbrev pub released : Answer → List ℕ → List ℕ
released More s = s
released (Integer x) s = s
released (Float bits) s = s
released (String n) s = cleared n s
released (Body n) s = cleared n s
released End s = s
released (Refused why) s = s

-- ---- through every answer: each is handed, with the current node and the store that holds its bytes, to a handler

-- a decoder and what a handler has made of its answers so far
pub record Fed (M : Type 0) : Type 0 where
  pub control : Control
  pub store : List ℕ
  pub memo : M

module _ {M : Type 0} (h : ℤ → Answer → List ℕ → M → M) where
  -- an answer other than 'more' is handed on with its node, and its bytes are released
  abbrev pub handle : StepEffect → M → Fed M
  handle x m =
      record {
        control = x.answered.control;
        store = released x.answered.answer x.store;
        memo = if (is_more x.answered.answer) m (h x.answered.control.node x.answered.answer x.store m);
      }

  -- the pending byte, if there is one
  abbrev pub fed_pending : Fed M → Fed M
  fed_pending x = handle (settle_of x.control x.store) x.memo

  -- one byte, with the byte that it made pending
  abbrev pub fed_byte : Fed M → ℕ → Fed M
  fed_byte x b = fed_pending (handle (first_of x.control x.store b) x.memo)

  -- bytes one after the other, through every answer
  unfoldable pub fed_from : Fed M → List ℕ → Fed M
  fed_from x [] = x
  fed_from x (b ∷ bs) = fed_from (fed_byte x b) bs

  -- 01: next until 'more': FeedLaws (specs/DecoderLaws.antt) says that it is that
  unfoldable pub feed_of : Fed M → List ℕ → Fed M
  feed_of x bs = fed_from (fed_pending x) bs
