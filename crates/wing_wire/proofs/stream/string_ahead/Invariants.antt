use mathlib.Core.Path.{◌≡◌}
use Prim.Native.Nat.{◌-◌}
use lib.ListN.{length, drop}
use Rattle.wing_wire.specs.Plain.{string_ahead}
use Rattle.wing_wire.proofs.stream.string_ahead.Given as goal

abbrev pub invariant-loop-i : goal.invariant-loop-i
invariant-loop-i l = (length l.store ≡ length l.initial.store) × (string_ahead l.want l.left l.initial.store l.at (drop l.at l.bytes) ≡ string_ahead l.want l.l l.store l.i (drop l.i l.bytes))

abbrev pub decreases-loop-i : goal.decreases-loop-i
decreases-loop-i l = length l.bytes - l.i
