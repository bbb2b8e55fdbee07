use mathlib.Core.Path.{◌≡◌}
use Prim.Native.Nat.{◌≤◌}
use lib.ListN.{length}
use Rattle.wing_node.specs.Bytes.{placed}
use Rattle.wing_node.specs.Decimal.{last_digits}
use Rattle.wing_node.proofs.value.put_digits.Given as goal

abbrev pub invariant-loop-i : goal.invariant-loop-i
invariant-loop-i l =
    (l.i ≤ l.k) × (length l.out ≡ length l.initial.out) × (placed l.out l.from (last_digits l.i l.rest) ≡ placed l.initial.out l.from (last_digits l.k l.n))

abbrev pub decreases-loop-i : goal.decreases-loop-i
decreases-loop-i l = l.i
