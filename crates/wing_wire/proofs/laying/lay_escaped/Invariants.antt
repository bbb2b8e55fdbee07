use Prim.Native.Nat.{◌+◌, ◌*◌, ◌≤◌}
use mathlib.Core.Path.{◌≡◌}
use lib.ListN.{length, take}
use Rattle.wing_wire.specs.Write.{escaped, Laid}
use Rattle.wing_wire.proofs.laying.lay_escaped.Given as goal

abbrev pub invariant-loop-b : goal.invariant-loop-b
invariant-loop-b l =
    (l.next ≤ l.at + 2 * l.b-index) × (length l.out ≡ length l.initial.out) × Laid (escaped (take l.b-index l.bytes)) l.at l.initial.out l.out l.next
