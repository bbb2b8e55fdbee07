-- What the decoder owes a mirror: it stays valid, and each of its value events may be kept.
use Prim.Native.Nat.{ℕ, ◌≤◌}
use mathlib.Core.Bool.{true}
use mathlib.Core.Path.{◌≡◌, refl}
use mathlib.Core.List.{List, []}
use native.Mathlib.Omega.{arith}
use borrow.Author.Tests.{le-leb}
use lib.IntN.{ℤ}
use lib.ListN.{length, take, length-take}
use Rattle.wing_node.specs.Signed.{InBits}
use Rattle.wing_node.specs.Utf8.{utf8}
use Rattle.wing_node.specs.Value.{string}
use Rattle.wing_wire.specs.State.{fresh_state, sound_state}
use Rattle.wing_wire.specs.Range.{AreBytes, Within, InRange, AnswerIn}
use Rattle.wing_wire.specs.Reader.{Event, more, value, body, end, refused, event_of}
use Rattle.wing_wire.specs.declared.state.State.{State}
use Rattle.wing_wire.specs.declared.unit.Answer.{Answer}
use Rattle.wing_wire.specs.declared.unit.Answer.TheVariants.{More, Integer, Float, String, Body, End, Refused}
use Rattle.wing_wire.proofs.Laws.{decoder-laws}
use Rattle.wing_mirror.specs.Rows.{All}
use Rattle.wing_mirror.specs.Entry.{entry, storable}
use Rattle.wing_mirror.specs.Layout.{Layout, ValidEntry, kept}
use Rattle.wing_mirror.specs.Machine.{StreamEvent, stream_event, append_event, decode_all, state_after, events}
use Rattle.wing_mirror.specs.declared.origin.Origin.TheVariants.{Console}
use Rattle.wing_mirror.proofs.Tables.Images.{all-last}

-- a value event's entry is valid, if its value is kept
abbrev pub ValidEvent : Layout → ℤ → Event → Type 0
ValidEvent L node more = Unit {0}
ValidEvent L node (value v) = L.keeping v ≡ kept → ValidEntry L (entry node v Console)
ValidEvent L node (body b) = Unit {0}
ValidEvent L node end = Unit {0}
ValidEvent L node (refused n) = Unit {0}

-- the same of an event with its node
abbrev pub ValidStreamEvent : Layout → StreamEvent → Type 0
ValidStreamEvent L r = ValidEvent L r.node r.event

-- a string within its bounds may be kept
pub string-text : (n : ℕ) (s : List ℕ) → n ≤ 256 → utf8 (take n s) ≡ true → storable (string (take n s)) ≡ true
unfolding storable
string-text n s h u = rw (le-leb (length (take n s)) 256 (omega (arith, length-take n s))) u

-- an answer in range and within bounds
answer-valid : (L : Layout) (node : ℤ) (a : Answer) (s : List ℕ) → InBits 31 node → Within a s → AnswerIn a → ValidEvent L node (event_of a s s)
unfolding event_of storable
answer-valid L node More s i w r = tt
answer-valid L node (Integer x) s i w r = λ k. record { node = i; typed = r; text = refl; is_kept = k }
answer-valid L node (Float bits) s i w r = λ k. record { node = i; typed = omega arith; text = refl; is_kept = k }
answer-valid L node (String n) s i w r = λ k. record { node = i; typed = tt; text = string-text n s w.0 w.1; is_kept = k }
answer-valid L node (Body n) s i w r = tt
answer-valid L node End s i w r = tt
answer-valid L node (Refused n) s i w r = tt

-- a state that passes the test, in the range of its types
pub record ValidState (s : State) : Type 0 where
  pub sound : sound_state s ≡ true
  pub inside : InRange s.control s.store

-- the fresh state is valid
pub fresh-valid : ValidState fresh_state
fresh-valid = record { sound = decoder-laws.sound.fresh; inside = decoder-laws.sound.fresh_in }

module _ (s : State) (bytes : List ℕ) (are : AreBytes bytes) (w : ValidState s) where
  -- the state after the bytes is valid
  pub after-valid : ValidState (state_after s bytes)
  unfolding decode_all
  after-valid = record { sound = decoder-laws.sound.sound append_event _ bytes are w.inside w.sound; inside = decoder-laws.sound.range append_event _ bytes are w.inside }

  -- each value event that it reads may be kept
  pub events-valid : (L : Layout) → All (ValidStreamEvent L) (events s bytes)
  unfolding decode_all
  events-valid L =
      decoder-laws.sound.keeps append_event (All (ValidStreamEvent L)) (λ node a t rs i within r st p. all-last (ValidStreamEvent L) rs (stream_event node (event_of a t t)) p (answer-valid L node a t i within r))
      (record { control = s.control; store = s.store; memo = [] }) bytes are w.inside w.sound tt
