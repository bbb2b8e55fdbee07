-- A refusal's number with a minus sign, as the machine makes it: one less, with every bit the other way.
use Prim.Native.Nat.{ℕ, suc, ◌-◌, ◌≤◌, ◌<◌}
use mathlib.Core.Path.{◌≡◌, refl, ◌∙◌, ap}
use native.Mathlib.Omega.{arith}
use borrow.Author.Tests.{le-ltb}
use lib.IntN.{negsuc}
use mir.Syntax.{w32}
use mir.Val.{to_z}
use Rattle.wing_node.proofs.Numerals.Signs.{reads}

pub turned-over : (n : ℕ) → 1 ≤ n → n < 256 → to_z w32 (4294967295 - (n - 1)) ≡ negsuc (n - 1)
turned-over n a b =
    let e : 4294967296 - suc (4294967295 - (n - 1)) ≡ n - 1 = omega arith in
    reads w32 refl (4294967295 - (n - 1)) ∙ rw (le-ltb (4294967295 - (n - 1)) 2147483648 (omega arith)) (ap negsuc e)
