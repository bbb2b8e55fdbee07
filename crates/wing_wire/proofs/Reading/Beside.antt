-- The string or body beside an answer is what the store holds of it.
use Prim.Native.Nat.{ℕ, zero, suc, ◌≤◌}
use mathlib.Core.Bool.{Bool, true, false}
use lib.Dec.{leb}
use mathlib.Core.Path.{◌≡◌, refl, ◌∙◌, ap}
use mathlib.Core.List.{List, [], ◌∷◌}
use native.Mathlib.Omega.{arith}
use native.Mathlib.Nat.{le_of_suc-le-suc, not-suc-le-zero}
use lib.ListN.{length, take, replicate, length-replicate}
use lib.Seq.{length-take-le}
use Rattle.wing_node.specs.Value.{string}
use Rattle.wing_node.specs.Bool.{if}
use Rattle.wing_wire.specs.State.{body_limit, sound_state}
use Rattle.wing_wire.specs.Stream.{Run, advance_of}
use Rattle.wing_wire.specs.Reader.{value, body, refused, event_of, over, filled, string_beside, body_beside, refused_next, next_from, next_of, event_in, next_event}
use Rattle.wing_wire.specs.Answers.{event_at, answer_result, reply_result}
use Rattle.wing_wire.specs.Range.{Within}
use Rattle.wing_wire.specs.declared.state.State.{State}
use Rattle.wing_wire.proofs.Reading.Bounds.{advance-bounded}
use Rattle.wing_wire.proofs.Reading.Sound.{sound-within}
use Rattle.wing_wire.specs.declared.unit.Answer.{Answer}
use Rattle.wing_wire.specs.declared.unit.Answer.TheVariants.{More, Integer, Float, String, Body, End, Refused}
use Rattle.wing_node.specs.declared.refusal.Refusal.TheVariants.{NumberOver, StateUnsound}

-- the bytes before the zeros
over-front : (n : ℕ) (t d : List ℕ) → length t ≡ n → n ≤ length d → take n (over t d) ≡ t
over-front zero [] d e h = refl
over-front zero (a ∷ t) d e h = absurd (omega arith)
over-front (suc n) [] d e h = absurd (omega arith)
over-front (suc n) (a ∷ t) [] e h = absurd (not-suc-le-zero h)
over-front (suc n) (a ∷ t) (b ∷ d) e h = ap (λ (l : List ℕ). a ∷ l) (over-front n t d (omega arith) (le_of_suc-le-suc h))

filled-front : (w n : ℕ) (s : List ℕ) → n ≤ w → n ≤ length s → take n (filled w (take n s)) ≡ take n s
filled-front w n s h l = over-front n (take n s) (replicate w 0) (length-take-le n s l) (omega (arith, length-replicate {A = ℕ} w 0))

-- the event by the arrays beside the answer is the event by the store, the one that a feed's handler is given
pub event-beside : (a : Answer) (s : List ℕ) → length s ≡ body_limit → Within a s → event_of a (string_beside a s) (body_beside a s) ≡ event_of a s s
unfolding event_of string_beside body_beside
event-beside More s l w = refl
event-beside (Integer x) s l w = refl
event-beside (Float x) s l w = refl
event-beside (String n) s l w = ap (λ (t : List ℕ). value (string t)) (filled-front 256 n s w.0 (omega (arith, w.0)))
event-beside (Body n) s l w = ap (λ (t : List ℕ). body t) (filled-front body_limit n s w (omega arith))
event-beside End s l w = refl
event-beside (Refused n) s l w = refl

-- a reply says the event that the units gave: its arrays hold the whole string or body
pub next-event : (s : State) (bytes : List ℕ) → length s.store ≡ body_limit → event_in (next_of s bytes) ≡ next_event s bytes
unfolding next_of next_event event_of
next-event s bytes l = go (sound_state s) (leb (length bytes) 65536) refl
  where
    r : Run
    r = advance_of s.control s.store bytes

    go : (q k : Bool) → sound_state s ≡ q →
        event_in (if q (if k (next_from r) (refused_next NumberOver s)) (refused_next StateUnsound s)) ≡
        if q (if k (event_of r.effect.answered.answer r.effect.store r.effect.store) (refused NumberOver)) (refused StateUnsound)
    go true true e =
        let b = advance-bounded s.control s.store bytes (sound-within s e) in
        event-beside r.effect.answered.answer r.effect.store (b.size ∙ l) b.within
    go true false e = refl
    go false k e = refl

-- a next call gives 01's event at the node of the state after it, or its number
pub next-result : (s : State) (bytes : List ℕ) → length s.store ≡ body_limit → reply_result (next_of s bytes) ≡ event_at (next_of s bytes).state.control.node (next_event s bytes)
unfolding reply_result answer_result
next-result s bytes l = ap (event_at (next_of s bytes).state.control.node) (next-event s bytes l)
