-- What holds of each step holds of a run; so a run stays in the range of its types.
use Prim.Native.Nat.{ℕ, ◌+◌, ◌<◌}
use mathlib.Core.Bool.{Bool, true, false}
use mathlib.Core.Path.{◌≡◌, refl}
use mathlib.Core.List.{List, [], ◌∷◌}
use Rattle.wing_node.proofs.Branches.{branch}
use Rattle.wing_wire.specs.Range.{AreBytes, byte_then, InRange}
use Rattle.wing_wire.specs.Stream.{StepEffect, is_more, settle_of, first_of, follow_of, step_of, run_of, advance_of}
use Rattle.wing_wire.specs.declared.state.Control.{Control}
use Rattle.wing_wire.proofs.Reading.Pieces.{at, stays, run_on}
use Rattle.wing_wire.proofs.Reading.Ranges.{StepEffectIn, settle-in, first-in}

-- of any run over numbers of which Q holds, as it does of what is left of them
pub run-keeps : (P : StepEffect → Type 0) (Q : List ℕ → Type 0) → ((b : ℕ) (bs : List ℕ) → Q (b ∷ bs) → Q bs) →
    ((o : StepEffect) (b : ℕ) (bs : List ℕ) → Q (b ∷ bs) → P o → P (step_of o.answered.control o.store b)) →
    (o : StepEffect) (n : ℕ) (bs : List ℕ) → Q bs → P o → P (run_of (at o n) bs).effect
unfolding run_of
run-keeps P Q rest step o n [] q h = h
run-keeps P Q rest step o n (b ∷ bs) q h =
    go (is_more o.answered.answer) refl (run-keeps P Q rest step (step_of o.answered.control o.store b) (n + 1) bs (rest b bs q) (step o b bs q h))
  where
    go : (t : Bool) → is_more o.answered.answer ≡ t → P (run_of (at (step_of o.answered.control o.store b) (n + 1)) bs).effect → P (run_of (at o n) (b ∷ bs)).effect
    go true e ih = rw (run_on o n b bs e) ih
    go false e ih = rw (stays (at o n) (b ∷ bs) e) h

-- ---- ranges

first_byte : (b : ℕ) (bs : List ℕ) → AreBytes (b ∷ bs) → b < 256
first_byte b bs (byte_then l ls) = l

later-bytes : (b : ℕ) (bs : List ℕ) → AreBytes (b ∷ bs) → AreBytes bs
later-bytes b bs (byte_then l ls) = ls

ranged : (o : StepEffect) → StepEffectIn o → InRange o.answered.control o.store
ranged o g = record { pending = g.pending; node = g.node; number = g.number; store = g.store }

step_in : (c : Control) (s : List ℕ) (b : ℕ) → b < 256 → InRange c s → StepEffectIn (step_of c s b)
unfolding follow_of
step_in c s b l r =
    let o : StepEffect = first_of c s b in
    branch StepEffectIn (is_more o.answered.answer) _ _ (λ _. settle-in o.answered.control o.store (ranged o (first-in c s b l r))) (λ _. first-in c s b l r)

-- what the core answers
pub advance-in : (c : Control) (s bytes : List ℕ) → AreBytes bytes → InRange c s → StepEffectIn (advance_of c s bytes).effect
unfolding advance_of
advance-in c s bytes b r =
    run-keeps StepEffectIn AreBytes later-bytes (λ o x xs q h. step_in o.answered.control o.store x (first_byte x xs q) (ranged o h)) (settle_of c s) 0 bytes b (settle-in c s r)
