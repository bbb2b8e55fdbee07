use mathlib.Core.Path.{◌≡◌}
use Prim.Native.Nat.{◌-◌}
use lib.ListN.{length, drop}
use Rattle.wing_wire.specs.Plain.{number_ahead}
use Rattle.wing_wire.proofs.stream.number_ahead.Given as goal

abbrev pub invariant-loop-i : goal.invariant-loop-i
invariant-loop-i l = number_ahead l.class l.left l.value l.at (drop l.at l.bytes) ≡ number_ahead l.class l.l l.v l.i (drop l.i l.bytes)

abbrev pub decreases-loop-i : goal.decreases-loop-i
decreases-loop-i l = length l.bytes - l.i
