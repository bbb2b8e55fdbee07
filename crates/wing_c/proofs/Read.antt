-- What a next call answers is such an answer: an integer has 32 bits, and a refusal is 8, 14, 2 or 3, or 1 with its good.
use Prim.Native.Nat.{ℕ}
use mathlib.Core.List.{List}
use lib.Dec.{leb}
use lib.ListN.{length}
use Rattle.wing_node.proofs.Branches.{branch}
use Rattle.wing_wire.specs.State.{sound_state}
use Rattle.wing_wire.specs.Range.{AreBytes, InRange, AnswerIn}
use Rattle.wing_wire.specs.Reader.{next_of}
use Rattle.wing_wire.specs.Stream.{advance_of}
use Rattle.wing_wire.specs.declared.state.State.{State}
use Rattle.wing_wire.specs.declared.state.Control.{Control}
use Rattle.wing_wire.specs.declared.reader.Reply.{Reply}
use Rattle.wing_wire.specs.declared.unit.Answer.{Answer}
use Rattle.wing_wire.specs.declared.unit.Answer.TheVariants.{More, Integer as an_integer, Float as a_float, String as a_string, Body as a_body, End as an_end, Refused}
use Rattle.wing_wire.proofs.Reading.Runs.{advance-in}
use Rattle.wing_c.specs.Meanings.{OfNext}

of-next : (a : Answer) → AnswerIn a → OfNext a
of-next More i = tt
of-next (an_integer x) i = i
of-next (a_float bits) i = tt
of-next (a_string n) i = tt
of-next (a_body n) i = tt
of-next an_end i = tt
of-next (Refused why) i = tt

advance-told : (c : Control) (s bytes : List ℕ) → AreBytes bytes → InRange c s → OfNext (advance_of c s bytes).effect.answered.answer
advance-told c s bytes b r = of-next (advance_of c s bytes).effect.answered.answer (advance-in c s bytes b r).answer

-- a next call
pub next-told : (s : State) (bytes : List ℕ) → AreBytes bytes → InRange s.control s.store → OfNext (next_of s bytes).answer
unfolding next_of
next-told s bytes b r =
    branch (λ (x : Reply). OfNext x.answer) (sound_state s) _ _
    (λ _.
    branch (λ (x : Reply). OfNext x.answer) (leb (length bytes) 65536) _ _ (λ _. advance-told s.control s.store bytes b r) (λ _. tt))
    (λ _. tt)
