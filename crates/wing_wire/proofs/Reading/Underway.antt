-- What a test of the units still wanted tells.
use mathlib.Core.Bool.{true}
use mathlib.Core.Path.{◌≡◌}
use Prim.Native.Nat.{ℕ, ◌≤◌}
use lib.Dec.{leb}
use borrow.Author.Tests.{leb-true}
use Rattle.wing_node.proofs.Branches.{and_right}
use Rattle.wing_wire.specs.State.{underway}

pub underway-le : (left want : ℕ) → underway left want ≡ true → left ≤ want
unfolding underway
underway-le left want e = leb-true left want (and_right (leb 1 left) _ e)
