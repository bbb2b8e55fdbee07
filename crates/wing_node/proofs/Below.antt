-- A test that antt computes at every number below n holds at each.
use Prim.Native.Nat.{ℕ, zero, suc, ◌<◌}
use mathlib.Core.Bool.{Bool, true, false}
use mathlib.Core.Path.{◌≡◌, refl, subst, sym}
use native.Mathlib.Omega.{arith}
use native.Mathlib.Nat.{not-suc-le-zero}
use borrow.Author.Tests.{eqb-true, eqb-false}
use lib.Dec.{T, eqb}
use Rattle.wing_node.specs.Bool.{and}

abbrev pub every : ℕ → (ℕ → Bool) → Bool
every zero f = true
every (suc n) f = and (f n) (every n f)

pub and-T-left : (a b : Bool) → T (and a b) → T a
and-T-left true b t = tt
and-T-left false b t = t

pub and-T-right : (a b : Bool) → T (and a b) → T b
and-T-right true b t = t
and-T-right false b t = absurd t

pub below : (f : ℕ → Bool) (n : ℕ) → T (every n f) → (k : ℕ) → k < n → T (f k)
below f zero t k h = absurd (not-suc-le-zero h)
below f (suc n) t k h = go (eqb k n) refl (and-T-left (f n) (every n f) t) (below f n (and-T-right (f n) (every n f) t) k)
  where
    go : (q : Bool) → eqb k n ≡ q → T (f n) → (k < n → T (f k)) → T (f k)
    go true e p ih = subst (λ (m : ℕ). T (f m)) (sym (eqb-true k n e)) p
    go false e p ih = ih (let z : k ≡ n → ⊥ = eqb-false k n e in omega arith)
