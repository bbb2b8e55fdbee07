-- Next calls repeated are the feed; how far a next call goes, and what it leaves.
use Prim.Native.Nat.{ℕ, suc, ◌+◌, ◌≤◌}
use mathlib.Core.Bool.{Bool, true, false}
use mathlib.Core.Path.{◌≡◌, refl, sym, ◌∙◌, ap}
use mathlib.Core.Logic.{◌⊎◌, inl, inr}
use lib.IntN.{ℤ}
use mathlib.Core.List.{List, [], ◌∷◌}
use native.Mathlib.Omega.{arith}
use lib.ListN.{length, drop, drop_of_length-le}
use Rattle.wing_wire.specs.Stream.{StepEffect, is_more, pending_of, settle_of, first_of, follow_of, step_of, Run, run_of, advance_of, released, Fed, handle, fed_from, feed_of}
use Rattle.wing_wire.specs.Units.{pending_count}
use Rattle.wing_wire.specs.declared.state.Control.{Control}
use Rattle.wing_wire.specs.declared.unit.Answer.{Answer}
use Rattle.wing_wire.proofs.Reading.Pieces.{at, clash, settle-not-pending, stays, run_on, run_up, pending-same, handle-more, feed-next}
use Rattle.std.specs.Prelude.{Option, ℕ, None, Some}

-- a run takes no more bytes than there are
run_in : (o : StepEffect) (n : ℕ) (bs : List ℕ) → (run_of (at o n) bs).taken ≤ n + length bs
unfolding run_of
run_in o n [] = omega arith
run_in o n (b ∷ bs) = go (is_more o.answered.answer) refl (run_in (step_of o.answered.control o.store b) (n + 1) bs)
  where
    go : (t : Bool) → is_more o.answered.answer ≡ t →
        (run_of (at (step_of o.answered.control o.store b) (n + 1)) bs).taken ≤ n + 1 + length bs → (run_of (at o n) (b ∷ bs)).taken ≤ n + suc (length bs)
    go true e ih = rw (run_on o n b bs e) (omega arith)
    go false e ih = rw (stays (at o n) (b ∷ bs) e) (omega arith)

-- with nothing to report a byte leaves nothing pending
pub step-not-pending : (c : Control) (s : List ℕ) (b : ℕ) → is_more (step_of c s b).answered.answer ≡ true → (step_of c s b).answered.control.escape.pending ≡ None
unfolding follow_of
step-not-pending c s b = go (first_of c s b)
  where
    go : (o : StepEffect) → is_more (follow_of o).answered.answer ≡ true → (follow_of o).answered.control.escape.pending ≡ None
    go o = by (is_more o.answered.answer) refl
      where
        by : (t : Bool) → is_more o.answered.answer ≡ t → is_more (follow_of o).answered.answer ≡ true → (follow_of o).answered.control.escape.pending ≡ None
        by true e p = rw e (settle-not-pending o.answered.control o.store)
        by false e p = absurd (clash (rw e at p) e)

-- a run with nothing to report began with nothing to report
more-before : (o : StepEffect) (n : ℕ) (bs : List ℕ) → is_more (run_of (at o n) bs).effect.answered.answer ≡ true → is_more o.answered.answer ≡ true
more-before o n bs p = go (is_more o.answered.answer) refl
  where
    go : (t : Bool) → is_more o.answered.answer ≡ t → is_more o.answered.answer ≡ true
    go true q = q
    go false q = absurd (clash (ap (λ (a : Run). is_more a.effect.answered.answer) (sym (stays (at o n) bs q)) ∙ p) q)

-- a run with nothing to report has taken all, and leaves nothing pending
run_more : (o : StepEffect) (n : ℕ) (bs : List ℕ) → o.answered.control.escape.pending ≡ None → is_more (run_of (at o n) bs).effect.answered.answer ≡ true →
    ((run_of (at o n) bs).taken ≡ n + length bs) × ((run_of (at o n) bs).effect.answered.control.escape.pending ≡ None)
unfolding run_of
run_more o n [] e p = (omega arith, e)
run_more o n (b ∷ bs) e p = go (is_more o.answered.answer) refl (run_more (step_of o.answered.control o.store b) (n + 1) bs) p
  where
    o' : StepEffect
    o' = step_of o.answered.control o.store b

    go : (t : Bool) → is_more o.answered.answer ≡ t →
        (o'.answered.control.escape.pending ≡ None → is_more (run_of (at o' (n + 1)) bs).effect.answered.answer ≡ true → ((run_of (at o' (n + 1)) bs).taken ≡ n + 1 + length bs) × ((run_of (at o' (n + 1)) bs).effect.answered.control.escape.pending ≡ None)) →
        is_more (run_of (at o n) (b ∷ bs)).effect.answered.answer ≡ true →
        ((run_of (at o n) (b ∷ bs)).taken ≡ n + suc (length bs)) × ((run_of (at o n) (b ∷ bs)).effect.answered.control.escape.pending ≡ None)
    go true q ih p =
        let p' : is_more (run_of (at o' (n + 1)) bs).effect.answered.answer ≡ true = ap (λ (a : Run). is_more a.effect.answered.answer) (sym (run_on o n b bs q)) ∙ p in
        let r = ih (step-not-pending o.answered.control o.store b (more-before o' (n + 1) bs p')) p' in
        rw (run_on o n b bs q) (omega (arith, r.0), r.1)
    go false q ih p = absurd (clash (ap (λ (a : Run). is_more a.effect.answered.answer) (sym (stays (at o n) (b ∷ bs) q)) ∙ p) q)

-- a next call takes no more bytes than there are
pub next-in : (c : Control) (s bytes : List ℕ) → (advance_of c s bytes).taken ≤ length bytes
unfolding advance_of
next-in c s bytes = omega (arith, run_in (settle_of c s) 0 bytes)

-- more only when all bytes are taken and nothing is pending
pub next_more : (c : Control) (s bytes : List ℕ) → is_more (advance_of c s bytes).effect.answered.answer ≡ true →
    ((advance_of c s bytes).taken ≡ length bytes) × ((advance_of c s bytes).effect.answered.control.escape.pending ≡ None)
unfolding advance_of
next_more c s bytes p = let r = run_more (settle_of c s) 0 bytes (settle-not-pending c s) p in (omega (arith, r.0), r.1)

-- a run that had no answer and has one took a byte
run-takes : (o : StepEffect) (n : ℕ) (bs : List ℕ) → is_more o.answered.answer ≡ true → is_more (run_of (at o n) bs).effect.answered.answer ≡ false → n + 1 ≤ (run_of (at o n) bs).taken
unfolding run_of
run-takes o n [] e p = absurd (clash e p)
run-takes o n (b ∷ bs) e p = rw (run_on o n b bs e) (run_up (step_of o.answered.control o.store b) (n + 1) bs)

-- where the pending byte completes an answer, there was one
pub settle-pending : (c : Control) (s : List ℕ) → is_more (settle_of c s).answered.answer ≡ false → pending_count c.escape.pending ≡ 1
unfolding settle_of
settle-pending c s = go c.escape.pending
  where
    go : (p : Option ℕ) → is_more (pending_of p c s).answered.answer ≡ false → pending_count p ≡ 1
    go None q = absurd (clash refl q)
    go (Some u) q = refl

-- an answer other than more has taken a byte, or the pending byte, and then nothing is pending
pub next-takes : (c : Control) (s bytes : List ℕ) → is_more (advance_of c s bytes).effect.answered.answer ≡ false →
    (1 ≤ (advance_of c s bytes).taken) ⊎ ((pending_count c.escape.pending ≡ 1) × ((advance_of c s bytes).effect.answered.control.escape.pending ≡ None))
unfolding advance_of
next-takes c s bytes p = go (is_more (settle_of c s).answered.answer) refl
  where
    r : Run
    r = run_of (at (settle_of c s) 0) bytes

    go : (t : Bool) → is_more (settle_of c s).answered.answer ≡ t → (1 ≤ r.taken) ⊎ ((pending_count c.escape.pending ≡ 1) × (r.effect.answered.control.escape.pending ≡ None))
    go true e = inl (run-takes (settle_of c s) 0 bytes e p)
    go false e = inr (settle-pending c s e, ap (λ (x : Run). x.effect.answered.control.escape.pending) (stays (at (settle_of c s) 0) bytes e) ∙ settle-not-pending c s)

-- a next call with no bytes takes none: it settles what is pending
pub next-none : (c : Control) (s : List ℕ) → advance_of c s [] ≡ record { effect = settle_of c s; taken = 0 }
unfolding advance_of run_of
next-none c s = refl

-- and leaves nothing pending
pub next-none-not-pending : (c : Control) (s : List ℕ) → (advance_of c s []).effect.answered.control.escape.pending ≡ None
next-none-not-pending c s = rw (next-none c s) (settle-not-pending c s)

module _ {M : Type 0} (h : ℤ → Answer → List ℕ → M → M) where
  -- a control, a store and what the handler has made so far
  abbrev pub fed : Control → List ℕ → M → Fed M
  fed c s m = record { control = c; store = s; memo = m }

  ends : (y : StepEffect) (m : M) (k : ℕ) (bytes : List ℕ) → y.answered.control.escape.pending ≡ None → length bytes ≤ k → is_more y.answered.answer ≡ true →
      feed_of h (handle h y m) (drop k bytes) ≡ fed y.answered.control y.store m
  unfolding feed_of fed_from
  ends y m k bytes e g p = rw (drop_of_length-le bytes g) (pending-same h (handle h y m) e ∙ handle-more h y m p)

  -- a feed ends with the next call that answers more
  pub feed-ends : (c : Control) (s : List ℕ) (m : M) (bytes : List ℕ) → is_more (advance_of c s bytes).effect.answered.answer ≡ true →
      feed_of h (fed c s m) bytes ≡ fed (advance_of c s bytes).effect.answered.control (advance_of c s bytes).effect.store m
  feed-ends c s m bytes p =
      let r = next_more c s bytes p in
      feed-next h (fed c s m) bytes ∙ ends (advance_of c s bytes).effect m (advance_of c s bytes).taken bytes r.1 (omega (arith, r.0)) p

  -- any other answer is handed to the handler, its bytes are released, and the feed goes on with the bytes that were not taken
  pub feed-again : (c : Control) (s : List ℕ) (m : M) (bytes : List ℕ) → is_more (advance_of c s bytes).effect.answered.answer ≡ false →
      feed_of h (fed c s m) bytes ≡
      feed_of h
      (fed (advance_of c s bytes).effect.answered.control (released (advance_of c s bytes).effect.answered.answer (advance_of c s bytes).effect.store) (h (advance_of c s bytes).effect.answered.control.node (advance_of c s bytes).effect.answered.answer (advance_of c s bytes).effect.store m))
      (drop (advance_of c s bytes).taken bytes)
  feed-again c s m bytes p = feed-next h (fed c s m) bytes ∙ rw p
