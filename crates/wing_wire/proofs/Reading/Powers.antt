-- A number of 32 bits is below 256 to any four units or more.
use Prim.Native.Nat.{ℕ, ◌≤◌, ◌<◌, ◌^◌}
use native.Mathlib.Omega.{arith}
use native.Mathlib.Nat.{pow-le-pow_right}

pub below_power : (v n : ℕ) → v < 2 ^ 32 → 4 ≤ n → v < 256 ^ n
below_power v n f h =
    let g : 256 ^ 4 ≤ 256 ^ n = pow-le-pow_right (omega arith) h in
    omega arith
