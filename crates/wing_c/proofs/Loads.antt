-- What a next call on a sound state gives.
use Prim.Native.Nat.{ℕ, ◌≤◌}
use mathlib.Core.Bool.{true}
use mathlib.Core.Path.{◌≡◌, refl}
use mathlib.Core.List.{List}
use borrow.Author.Tests.{le-leb}
use lib.ListN.{length, take}
use Rattle.wing_wire.specs.State.{sound_state}
use Rattle.wing_wire.specs.Stream.{run, advance_of, released}
use Rattle.wing_wire.specs.Reader.{over, event_of, next_from, next_of, next_event}
use Rattle.wing_wire.specs.declared.state.State.{State}
use Rattle.wing_wire.specs.declared.stream.Advanced.{Advanced}
use Rattle.wing_wire.specs.declared.unit.Answer.{Answer}
use Rattle.wing_wire.specs.declared.unit.Answer.TheVariants.{More, Integer, Float, String, Body, End, Refused}
use Rattle.wing_c.specs.Kept.{value_bytes, event_bytes, answer_bytes, lent_next, next_left}

-- a next call that is not refused is a run of the core
next-run : (s : State) (bytes : List ℕ) → sound_state s ≡ true → length bytes ≤ 65536 → next_of s bytes ≡ next_from (advance_of s.control s.store bytes)
unfolding next_of
next-run s bytes g h = rw (g, le-leb (length bytes) 65536 h) refl

-- and its event is that of the core's answer
next-event : (s : State) (bytes : List ℕ) → sound_state s ≡ true → length bytes ≤ 65536 →
    next_event s bytes ≡
    event_of (advance_of s.control s.store bytes).effect.answered.answer (advance_of s.control s.store bytes).effect.store
    (advance_of s.control s.store bytes).effect.store
unfolding next_event
next-event s bytes g h = rw (g, le-leb (length bytes) 65536 h) refl

-- the bytes of an event stand at the front of the store
event-bytes : (a : Answer) (s : List ℕ) → event_bytes (event_of a s s) ≡ take (answer_bytes a) s
unfolding event_bytes value_bytes event_of
event-bytes More s = refl
event-bytes (Integer x) s = refl
event-bytes (Float bits) s = refl
event-bytes (String n) s = refl
event-bytes (Body n) s = refl
event-bytes End s = refl
event-bytes (Refused why) s = refl

-- a next call made by the core: its answer, the bytes of its event at the front of the output, and the store cleared of them
pub next-left : (s : State) (bytes out : List ℕ) (x : Advanced) (store : List ℕ) {cleared handed : List ℕ} →
    sound_state s ≡ true → length bytes ≤ 65536 → run x store ≡ advance_of s.control s.store bytes →
    cleared ≡ released x.answer store → handed ≡ over (take (answer_bytes x.answer) store) out → lent_next x cleared handed ≡ next_left s bytes out
next-left s bytes out x store g h a p o =
    rw (next-run s bytes g h, next-event s bytes g h, ← a, event-bytes x.answer store, p, o) refl
