-- Next calls repeated are the feed, by next_of itself; and the core gives what a next call gives.
use Prim.Native.Nat.{ℕ, zero, suc, ◌+◌, ◌*◌, ◌≤◌, ◌<◌}
use mathlib.Core.Bool.{Bool, true, false}
use mathlib.Core.Path.{◌≡◌, refl, sym, ◌∙◌, ap, subst}
use mathlib.Core.List.{List, [], ◌∷◌}
use native.Mathlib.Omega.{arith}
use lib.IntN.{ℤ}
use lib.ListN.{length, drop, length-drop}
use borrow.Author.Tests.{le-leb}
use Rattle.wing_wire.specs.Stream.{is_more, settle_of, step_of, run_of, advance_of, released}
use Rattle.wing_wire.specs.Reader.{Event, event_of, next_from, next_of, event_in}
use Rattle.wing_wire.specs.Range.{AreBytes, PendingByte}
use Rattle.wing_wire.specs.Units.{pending_count}
use Rattle.wing_wire.specs.Repeated.{Accepted, fed_state, feed_events, Repeated, NextCalls, ends, goes_on, UntilMore, CoreIsNext}
use Rattle.wing_wire.specs.declared.state.Control.{Control}
use Rattle.wing_wire.specs.declared.state.State.{State}
use Rattle.wing_wire.specs.declared.unit.Answer.{Answer}
use Rattle.wing_wire.specs.declared.unit.Answer.TheVariants.{More, Integer, Float, String, Body, End, Refused}
use Rattle.wing_wire.proofs.Reading.Pieces.{at, clash, settle-not-pending, stays, run_on, run_up, released-more}
use Rattle.wing_wire.proofs.Reading.Steps.{settle-pending, feed-ends, feed-again}
use Rattle.wing_wire.proofs.Reading.Bounds.{length-cleared, advance-bounded}
use Rattle.wing_wire.proofs.Reading.Ranges.{bytes_drop}
use Rattle.wing_wire.proofs.Reading.Sound.{sound-within, advance-good, state-parts, sound-next}
use Rattle.wing_wire.proofs.Reading.Beside.{event-beside}
use Rattle.std.specs.Prelude.{Option, ℕ, None, Some}

-- a next call that is not sent back is the reply to a run
pub accepted : (s : State) (bytes : List ℕ) → Accepted s bytes → next_of s bytes ≡ next_from (advance_of s.control s.store bytes)
unfolding next_of
accepted s bytes a = rw (a.sound, le-leb (length bytes) 65536 a.most)

-- the core's answer, bytes taken, control and event are the next call's
pub core-is-next : CoreIsNext
core-is-next s bytes a =
    let o = (advance_of s.control s.store bytes).effect in
    let b = advance-bounded s.control s.store bytes (sound-within s a.sound) in
    let e = accepted s bytes a in
    record {
      answer = rw e;
      taken = rw e;
      control = rw e;
      event = rw e (sym (event-beside o.answered.answer o.store (b.size ∙ a.store) b.within));
      store = rw e;
    }

-- an answer other than more
not_more : (a : Answer) → (a ≡ More → ⊥) → is_more a ≡ false
not_more More n = absurd (n refl)
not_more (Integer x) n = refl
not_more (Float bits) n = refl
not_more (String k) n = refl
not_more (Body k) n = refl
not_more End n = refl
not_more (Refused k) n = refl

-- an answer that is more
is-more : (a : Answer) → is_more a ≡ true → a ≡ More
is-more More e = refl
is-more (Integer x) e = absurd (clash e refl)
is-more (Float bits) e = absurd (clash e refl)
is-more (String k) e = absurd (clash e refl)
is-more (Body k) e = absurd (clash e refl)
is-more End e = absurd (clash e refl)
is-more (Refused k) e = absurd (clash e refl)

module _ {M : Type 0} (h : ℤ → Event → M → M) where
  abbrev handed : ℤ → Answer → List ℕ → M → M
  handed node a s m = h node (event_of a s s) m

  -- 01: feed runs next until 'more'
  pub repeated : Repeated h
  repeated s bytes m a =
      let o = (advance_of s.control s.store bytes).effect in
      let g = core-is-next s bytes a in
      record {
        more = λ e.
            let said_more : is_more o.answered.answer ≡ true = ap is_more (g.answer ∙ e) in
            feed-ends handed s.control s.store m bytes said_more ∙
            rw (← g.control, ← g.store, released-more o.answered.answer o.store said_more);
        again = λ e.
            let some : is_more o.answered.answer ≡ false = not_more o.answered.answer (λ q. e (sym g.answer ∙ q)) in
            feed-again handed s.control s.store m bytes some ∙ rw (← g.control, ← g.store, ← g.taken, ← g.event);
      }

-- ---- until 'more'

-- what is left to do: the bytes, and the byte that is pending
abbrev to_do : State → List ℕ → ℕ
to_do s bytes = 2 * length bytes + pending_count s.control.escape.pending

pending-one : (p : Option ℕ) → pending_count p ≤ 1
pending-one None = omega arith
pending-one (Some u) = omega arith

module _ (c : Control) (s : List ℕ) where
  run-on-less : (t : Bool) → is_more (settle_of c s).answered.answer ≡ t → (bs : List ℕ) → is_more (run_of (at (settle_of c s) 0) bs).effect.answered.answer ≡ false →
      2 * length (drop (run_of (at (settle_of c s) 0) bs).taken bs) + pending_count (run_of (at (settle_of c s) 0) bs).effect.answered.control.escape.pending < 2 * length bs + pending_count c.escape.pending
  unfolding run_of
  run-on-less false p bs q = rw (stays (at (settle_of c s) 0) bs p, settle-not-pending c s) (omega (arith, settle-pending c s p))
  run-on-less true p [] q = absurd (clash p q)
  run-on-less true p (b ∷ bs) q =
      let o = settle_of c s in
      let r = run_of (at (step_of o.answered.control o.store b) (0 + 1)) bs in
      rw (run_on o 0 b bs p)
      (omega (arith, run_up (step_of o.answered.control o.store b) (0 + 1) bs, length-drop r.taken (b ∷ bs), pending-one r.effect.answered.control.escape.pending))

  -- a next call that answers takes a byte, or the one that is pending
  run-less : (bytes : List ℕ) → is_more (advance_of c s bytes).effect.answered.answer ≡ false →
      2 * length (drop (advance_of c s bytes).taken bytes) + pending_count (advance_of c s bytes).effect.answered.control.escape.pending < 2 * length bytes + pending_count c.escape.pending
  unfolding advance_of
  run-less bytes q = run-on-less (is_more (settle_of c s).answered.answer) refl bytes q

length-released : (a : Answer) (s : List ℕ) → length (released a s) ≡ length s
length-released More s = refl
length-released (Integer x) s = refl
length-released (Float bits) s = refl
length-released (String n) s = length-cleared n s
length-released (Body n) s = length-cleared n s
length-released End s = refl
length-released (Refused n) s = refl

-- the next call after a next call is not sent back either
accepted-next : (s : State) (bytes : List ℕ) → Accepted s bytes → PendingByte s.control.escape.pending → AreBytes bytes →
    Accepted (next_of s bytes).state (drop (next_of s bytes).taken bytes) × PendingByte (next_of s bytes).state.control.escape.pending
accepted-next s bytes a p b =
    let o = (advance_of s.control s.store bytes).effect in
    let e = accepted s bytes a in
    let k = advance-bounded s.control s.store bytes (sound-within s a.sound) in
    let g = advance-good s.control s.store bytes b (state-parts s p a.sound) in (
      record {
        sound = sound-next s bytes b p a.sound;
        store = rw e (length-released o.answered.answer o.store ∙ k.size ∙ a.store);
        most = omega (arith, a.most, length-drop (next_of s bytes).taken bytes);
      },
      rw e g.0.byte,
    )

module _ {M : Type 0} (h : ℤ → Event → M → M) where
  -- what is shown of a state and bytes
  abbrev Until : State → List ℕ → Type 0
  Until s bytes = (m : M) → Accepted s bytes → PendingByte s.control.escape.pending → AreBytes bytes → NextCalls h s bytes m (feed_events h (fed_state h s m) bytes)

  until-on : (s : State) (bytes : List ℕ) → ((t : State) (bs : List ℕ) → to_do t bs < to_do s bytes → Until t bs) → Until s bytes
  until-on s bytes rest m a p b = go (is_more (next_of s bytes).answer) refl
    where
      go : (q : Bool) → is_more (next_of s bytes).answer ≡ q → NextCalls h s bytes m (feed_events h (fed_state h s m) bytes)
      go true q =
          let e = is-more (next_of s bytes).answer q in
          subst (NextCalls h s bytes m) (sym ((repeated h s bytes m a).more e)) (ends s bytes m e)
      go false q =
          let ne : (next_of s bytes).answer ≡ More → ⊥ = λ e. clash (ap is_more e) q in
          let k = accepted-next s bytes a p b in
          let t = (next_of s bytes).state in
          let bs = drop (next_of s bytes).taken bytes in
          let m' = h t.control.node (event_in (next_of s bytes)) m in
          let few : to_do t bs < to_do s bytes = rw (accepted s bytes a) (run-less s.control s.store bytes (ap is_more (core-is-next s bytes a).answer ∙ q)) in
          subst (NextCalls h s bytes m) (sym ((repeated h s bytes m a).again ne))
          (goes_on s bytes m (feed_events h (fed_state h t m') bs) ne (rest t bs few m' k.0 k.1 (bytes_drop (next_of s bytes).taken bytes b)))

  until-at : (n : ℕ) (s : State) (bytes : List ℕ) → to_do s bytes ≤ n → Until s bytes
  until-at zero s bytes l = until-on s bytes (λ t bs few. absurd (omega arith))
  until-at (suc n) s bytes l = until-on s bytes (λ t bs few. until-at n t bs (omega arith))

  -- next calls repeated until 'more' leave what the feed leaves
  pub until-more : UntilMore h
  until-more s bytes m a p b = until-at (to_do s bytes) s bytes (omega arith) m a p b
