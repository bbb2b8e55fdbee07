-- A next call stops after the unit that completes an answer.
use Prim.Native.Nat.{ℕ, zero, suc, ◌+◌, ◌<◌}
use mathlib.Core.Bool.{Bool, true, false}
use mathlib.Core.Path.{◌≡◌, refl}
use mathlib.Core.List.{List, [], ◌∷◌}
use native.Mathlib.Omega.{arith}
use lib.ListN.{take}
use Rattle.wing_wire.specs.Stream.{StepEffect, is_more, settle_of, step_of, run_of, advance_of}
use Rattle.wing_wire.specs.declared.state.Control.{Control}
use Rattle.wing_wire.specs.declared.unit.Answer.{Answer}
use Rattle.wing_wire.specs.declared.unit.Answer.TheVariants.{More, Integer as an_integer, Float as a_float, String as a_string, Body as a_body, End as an_end, Refused}
use Rattle.wing_wire.proofs.Reading.Pieces.{at, stays, run_on}

pub is-more : (a : Answer) → is_more a ≡ true → a ≡ More
is-more More e = refl
is-more (an_integer x) e = absurd (let z : ◌≡◌ {A = ℕ} 0 1 = cc in omega arith)
is-more (a_float bits) e = absurd (let z : ◌≡◌ {A = ℕ} 0 1 = cc in omega arith)
is-more (a_string n) e = absurd (let z : ◌≡◌ {A = ℕ} 0 1 = cc in omega arith)
is-more (a_body n) e = absurd (let z : ◌≡◌ {A = ℕ} 0 1 = cc in omega arith)
is-more an_end e = absurd (let z : ◌≡◌ {A = ℕ} 0 1 = cc in omega arith)
is-more (Refused why) e = absurd (let z : ◌≡◌ {A = ℕ} 0 1 = cc in omega arith)

-- a front of the bytes that a run took, shorter than these, gives nothing yet
run-stops : (o : StepEffect) (n : ℕ) (bs : List ℕ) (k : ℕ) → n + k < (run_of (at o n) bs).taken → is_more (run_of (at o n) (take k bs)).effect.answered.answer ≡ true
unfolding run_of
run-stops o n [] k l = absurd (omega arith)
run-stops o n (b ∷ bs) k l = go (is_more o.answered.answer) refl k l (λ j. run-stops (step_of o.answered.control o.store b) (n + 1) bs j)
  where
    o' : StepEffect
    o' = step_of o.answered.control o.store b

    go : (t : Bool) → is_more o.answered.answer ≡ t → (k : ℕ) → n + k < (run_of (at o n) (b ∷ bs)).taken →
        ((j : ℕ) → n + 1 + j < (run_of (at o' (n + 1)) bs).taken → is_more (run_of (at o' (n + 1)) (take j bs)).effect.answered.answer ≡ true) →
        is_more (run_of (at o n) (take k (b ∷ bs))).effect.answered.answer ≡ true
    go true e zero l ih = e
    go true e (suc k) l ih =
        let m : n + suc k < (run_of (at o' (n + 1)) bs).taken = rw (run_on o n b bs e) at l in
        rw (run_on o n b (take k bs) e) (ih k (omega arith))
    go false e k l ih = absurd (let m : n + k < n = rw (stays (at o n) (b ∷ bs) e) at l in omega arith)

pub advance-stops : (c : Control) (s bytes : List ℕ) (k : ℕ) → k < (advance_of c s bytes).taken → is_more (advance_of c s (take k bytes)).effect.answered.answer ≡ true
unfolding advance_of
advance-stops c s bytes k l = run-stops (settle_of c s) 0 bytes k (omega arith)
