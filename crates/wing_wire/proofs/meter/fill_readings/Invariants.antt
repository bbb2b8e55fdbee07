use mathlib.Core.Path.{◌≡◌}
use mathlib.Core.List.{◌++◌}
use lib.ListN.{length, take, drop}
use Rattle.wing_wire.specs.Meter.{readings}
use Rattle.wing_wire.proofs.meter.fill_readings.Given as goal

abbrev pub invariant-loop-i : goal.invariant-loop-i
invariant-loop-i l =
    (length l.out ≡ length l.initial.out) × (l.out ≡ take l.i (readings (drop 4 l.packet)) ++ drop l.i l.initial.out)
