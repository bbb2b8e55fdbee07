-- The store: room for a body's unit that is kept; and bytes at its front, read and cleared.
use mathlib.Core.Path.{◌≡◌, refl, sym, ◌∙◌, ap}
use mathlib.Core.Bool.{Bool, true, false}
use mathlib.Core.List.{List, [], ◌∷◌, ◌++◌}
use Prim.Native.Nat.{ℕ, zero, suc, ◌+◌, ◌≤◌, ◌<◌}
use native.Mathlib.Omega.{arith}
use lib.ListN.{length, take, drop, replicate}
use lib.Seq.{drop-append_seam, sets, sets-eq, take_at}
use lib.Dec.{ltb, leb, eqb}
use borrow.Author.Tests.{ltb-true, eqb-true}
use Rattle.wing_node.specs.Bool.{if}
use Rattle.wing_node.proofs.Branches.{if-both, and_left, and_right}
use Rattle.wing_wire.specs.State.{body_limit, zeros}
use Rattle.wing_wire.specs.Unit.{cleared, keeps}

-- a body's unit is stored only where a body has room
pub room : (want stored : ℕ) (appended : Bool) → keeps want stored appended ≡ true → stored < body_limit
unfolding keeps
room want stored appended e = ltb-true stored body_limit (if-both (leb want body_limit) _ (if-both appended (if (leb want body_limit) (ltb stored body_limit) false) e).1).1

-- ---- bytes at the front of a store

-- a store that is all 0 is zeros and the rest of it
zeros-front : (n : ℕ) (s : List ℕ) → n ≤ length s → zeros s ≡ true → s ≡ replicate n 0 ++ drop n s
unfolding zeros
zeros-front zero s h z = refl
zeros-front (suc n) [] h z = absurd (omega arith)
zeros-front (suc n) (b ∷ s) h z =
    let first : b ≡ 0 = eqb-true b 0 (and_left (eqb b 0) (zeros s) z) in
    rw first (ap (λ (l : List ℕ). 0 ∷ l) (zeros-front n s (omega arith) (and_right (eqb b 0) (zeros s) z)))

front-stored : (t s : List ℕ) → length t ≤ length s → sets s 0 t ≡ t ++ drop (length t) s
front-stored t s h = let z : 0 + length t ≡ length t = omega arith in rw z at (sets-eq t s 0 (omega arith))

-- they are read back
pub front_read : (t s : List ℕ) → length t ≤ length s → take (length t) (sets s 0 t) ≡ t
front_read t s h = ap (take (length t)) (front-stored t s h) ∙ take_at t (drop (length t) s) (length t) refl

-- once they are given out, a store that was all 0 is so again
pub front-cleared : (t s : List ℕ) → length t ≤ length s → zeros s ≡ true → cleared (length t) (sets s 0 t) ≡ s
front-cleared t s h z =
    rw (front_read t s h, front-stored t s h, drop-append_seam t (drop (length t) s)) (sym (zeros-front (length t) s h z))
