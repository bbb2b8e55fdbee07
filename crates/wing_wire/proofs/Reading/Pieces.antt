-- The bytes of two feeds joined give what one feed over the joined bytes gives; and what a feed makes of the bytes is what it
-- makes of the rest after a next call.
use Prim.Native.Nat.{ℕ, suc, ◌+◌, ◌-◌, ◌≤◌}
use mathlib.Core.Bool.{Bool, true, false}
use mathlib.Core.Path.{◌≡◌, refl, sym, ◌∙◌, ap}
use lib.IntN.{ℤ}
use mathlib.Core.List.{List, [], ◌∷◌, ◌++◌}
use native.Mathlib.Omega.{arith}
use native.Mathlib.Nat.{sub-zero}
use lib.ListN.{drop}
use lib.Seq.{drop-nil}
use Rattle.wing_wire.specs.Stream.{StepEffect, is_more, pending_of, settle_of, first_of, follow_of, step_of, Run, onward, run_of, advance_of, released, Fed, handle, fed_pending, fed_byte, fed_from, feed_of}
use Rattle.wing_wire.specs.declared.state.Control.{Control}
use Rattle.wing_wire.specs.declared.unit.Answer.{Answer}
use Rattle.wing_wire.specs.declared.unit.Answer.TheVariants.{More, Integer, Float, String, Body, End, Refused}
use Rattle.std.specs.Prelude.{Option, ℕ, None, Some}

-- what a step left after n bytes
abbrev pub at : StepEffect → ℕ → Run
at o n = record { effect = o; taken = n }

-- no test is both true and false
pub clash : {b : Bool} → b ≡ true → b ≡ false → ⊥
clash p q = let z : ◌≡◌ {A = Bool} true false = sym p ∙ q in let w : ◌≡◌ {A = ℕ} 0 1 = cc in omega arith

-- once it is settled, nothing is pending
pub settle-not-pending : (c : Control) (s : List ℕ) → (settle_of c s).answered.control.escape.pending ≡ None
unfolding settle_of
settle-not-pending c s = go c.escape.pending refl
  where
    go : (p : Option ℕ) → c.escape.pending ≡ p → (pending_of p c s).answered.control.escape.pending ≡ None
    go None e = e
    go (Some u) e = refl

-- a run that has its answer takes no more bytes
pub stays : (a : Run) (bs : List ℕ) → is_more a.effect.answered.answer ≡ false → run_of a bs ≡ a
unfolding run_of
stays a [] e = refl
stays a (b ∷ bs) e = rw e (stays a bs e)

-- a run without an answer takes the next byte
pub run_on : (o : StepEffect) (n b : ℕ) (bs : List ℕ) → is_more o.answered.answer ≡ true →
    run_of (at o n) (b ∷ bs) ≡ run_of (at (step_of o.answered.control o.store b) (n + 1)) bs
unfolding run_of
run_on o n b bs e = ap (λ (a : Run). run_of a bs) (more (at o n) b e)
  where
    more : (a : Run) (b : ℕ) → is_more a.effect.answered.answer ≡ true → onward a b ≡ at (step_of a.effect.answered.control a.effect.store b) (a.taken + 1)
    more a b e = rw e

-- a run takes no bytes back
pub run_up : (o : StepEffect) (n : ℕ) (bs : List ℕ) → n ≤ (run_of (at o n) bs).taken
unfolding run_of
run_up o n [] = omega arith
run_up o n (b ∷ bs) = go (is_more o.answered.answer) refl (run_up (step_of o.answered.control o.store b) (n + 1) bs)
  where
    go : (t : Bool) → is_more o.answered.answer ≡ t → n + 1 ≤ (run_of (at (step_of o.answered.control o.store b) (n + 1)) bs).taken → n ≤ (run_of (at o n) (b ∷ bs)).taken
    go true e ih = rw (run_on o n b bs e) (omega arith)
    go false e ih = rw (stays (at o n) (b ∷ bs) e) (omega arith)

-- without an answer nothing of the store is given out
pub released-more : (a : Answer) (s : List ℕ) → is_more a ≡ true → released a s ≡ s
released-more More s e = refl
released-more (Integer x) s e = refl
released-more (Float x) s e = refl
released-more (String n) s e = absurd (clash e refl)
released-more (Body n) s e = absurd (clash e refl)
released-more End s e = refl
released-more (Refused n) s e = refl

module _ {M : Type 0} (h : ℤ → Answer → List ℕ → M → M) where
  -- with nothing pending, settling changes nothing
  pub pending-same : (x : Fed M) → x.control.escape.pending ≡ None → fed_pending h x ≡ x
  unfolding settle_of
  pending-same x e = rw e

  -- without an answer the handler is not called
  pub handle-more : (o : StepEffect) (m : M) → is_more o.answered.answer ≡ true → handle h o m ≡ record { control = o.answered.control; store = o.store; memo = m }
  handle-more o m e = rw (e, released-more o.answered.answer o.store e)

  fed-not-pending : (x : Fed M) (bs : List ℕ) → x.control.escape.pending ≡ None → (fed_from h x bs).control.escape.pending ≡ None
  unfolding fed_from
  fed-not-pending x [] e = e
  fed-not-pending x (b ∷ bs) e = fed-not-pending (fed_byte h x b) bs (settle-not-pending _ _)

  -- after a feed nothing is pending
  pub feed-not-pending : (x : Fed M) (bs : List ℕ) → (feed_of h x bs).control.escape.pending ≡ None
  unfolding feed_of
  feed-not-pending x bs = fed-not-pending (fed_pending h x) bs (settle-not-pending _ _)

  fed-pieces : (x : Fed M) (a b : List ℕ) → fed_from h x (a ++ b) ≡ fed_from h (fed_from h x a) b
  unfolding fed_from
  fed-pieces x [] b = refl
  fed-pieces x (u ∷ a) b = fed-pieces (fed_byte h x u) a b

  -- feeding in two pieces is feeding at once, at any split, through any number of events
  pub feed-pieces : (x : Fed M) (a b : List ℕ) → feed_of h x (a ++ b) ≡ feed_of h (feed_of h x a) b
  unfolding feed_of
  feed-pieces x a b =
      fed-pieces (fed_pending h x) a b ∙ ap (λ (y : Fed M). fed_from h y b) (sym (pending-same (fed_from h (fed_pending h x) a) (fed-not-pending (fed_pending h x) a (settle-not-pending _ _))))

  -- ---- one next call of a feed

  -- the rest of a feed after a run
  abbrev Rest : StepEffect → ℕ → ℕ → M → List ℕ → List ℕ → Fed M
  Rest o k n m bs all = feed_of h (handle h (run_of (at o k) bs).effect m) (drop ((run_of (at o k) bs).taken - n) all)

  after_first : (o : StepEffect) (n : ℕ) (m : M) (b : ℕ) (bs : List ℕ) →
      fed_from h (handle h (settle_of o.answered.control o.store) m) bs ≡ Rest (settle_of o.answered.control o.store) (n + 1) (n + 1) m bs bs →
      (t : Bool) → is_more o.answered.answer ≡ t → feed_of h (handle h o m) bs ≡ Rest (follow_of o) (n + 1) n m bs (b ∷ bs)
  unfolding follow_of feed_of
  after_first o n m b bs ih true q =
      let up = run_up (settle_of o.answered.control o.store) (n + 1) bs in
      let T : ℕ = (run_of (at (settle_of o.answered.control o.store) (n + 1)) bs).taken in
      let z : T - n ≡ suc (T - (n + 1)) = omega arith in
      ap (λ (x : Fed M). fed_from h (fed_pending h x) bs) (handle-more o m q) ∙ rw q (rw z ih)
  after_first o n m b bs ih false q =
      let z : n + 1 - n ≡ 1 = omega arith in
      rw q (rw (stays (at o (n + 1)) bs q, z) (rw q))

  next-feed : (o : StepEffect) (n : ℕ) (m : M) (bs : List ℕ) → o.answered.control.escape.pending ≡ None → fed_from h (handle h o m) bs ≡ Rest o n n m bs bs
  unfolding run_of fed_from feed_of
  next-feed o n m [] e = rw (drop-nil {A = ℕ} (n - n)) (sym (pending-same (handle h o m) e))
  next-feed o n m (b ∷ bs) e =
      go (is_more o.answered.answer) refl
      (next-feed (settle_of o₁.answered.control o₁.store) (n + 1) m bs (settle-not-pending o₁.answered.control o₁.store))
    where
      o₁ : StepEffect
      o₁ = first_of o.answered.control o.store b

      go : (t : Bool) → is_more o.answered.answer ≡ t →
          fed_from h (handle h (settle_of o₁.answered.control o₁.store) m) bs ≡ Rest (settle_of o₁.answered.control o₁.store) (n + 1) (n + 1) m bs bs →
          fed_from h (handle h o m) (b ∷ bs) ≡ Rest o n n m (b ∷ bs) (b ∷ bs)
      go true p ih =
          rw (run_on o n b bs p) (ap (λ (x : Fed M). fed_from h (fed_byte h x b) bs) (handle-more o m p) ∙ after_first o₁ n m b bs ih (is_more o₁.answered.answer) refl)
      go false p ih =
          let z : n - n ≡ 0 = omega arith in
          rw (stays (at o n) (b ∷ bs) p, z) (ap (λ (x : Fed M). fed_from h x (b ∷ bs)) (sym (pending-same (handle h o m) e)))

  -- what a feed makes of the bytes is what it makes of the rest after a next call
  pub feed-next : (x : Fed M) (bs : List ℕ) →
      feed_of h x bs ≡ feed_of h (handle h (advance_of x.control x.store bs).effect x.memo) (drop (advance_of x.control x.store bs).taken bs)
  unfolding advance_of feed_of
  feed-next x bs =
      let o = settle_of x.control x.store in
      next-feed o 0 x.memo bs (settle-not-pending x.control x.store) ∙ rw (sub-zero (run_of (at o 0) bs).taken)
