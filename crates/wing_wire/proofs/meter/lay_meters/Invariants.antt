use Prim.Native.Nat.{◌+◌, ◌*◌, ◌≤◌}
use mathlib.Core.Path.{◌≡◌}
use lib.ListN.{length, take}
use Rattle.wing_wire.specs.Write.{Laid}
use Rattle.wing_wire.specs.Meter.{meters_bytes}
use Rattle.wing_wire.proofs.meter.lay_meters.Given as goal

abbrev pub invariant-loop-m : goal.invariant-loop-m
invariant-loop-m l =
    (l.next ≤ l.at + 3 * l.m-index) × (length l.out ≡ length l.initial.out) × Laid (meters_bytes (take l.m-index l.m-items)) l.at l.initial.out l.out l.next
