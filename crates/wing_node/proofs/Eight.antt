-- A number that is none of 0 to 7 is over 7.
use mathlib.Core.Path.{◌≡◌}
use Prim.Native.Nat.{ℕ, suc, ◌≤◌}
use native.Mathlib.Omega.{arith}

-- from k on, and not k
beyond : (n k : ℕ) → k ≤ n → (n ≡ k → ⊥) → suc k ≤ n
beyond n k h e = omega arith

pub over-seven : (n : ℕ) → (n ≡ 0 → ⊥) → (n ≡ 1 → ⊥) → (n ≡ 2 → ⊥) → (n ≡ 3 → ⊥) → (n ≡ 4 → ⊥) → (n ≡ 5 → ⊥) → (n ≡ 6 → ⊥) → (n ≡ 7 → ⊥) → 8 ≤ n
over-seven n a b c d e f g h =
    beyond n 7 (beyond n 6 (beyond n 5 (beyond n 4 (beyond n 3 (beyond n 2 (beyond n 1 (beyond n 0 (omega arith) a) b) c) d) e) f) g) h
