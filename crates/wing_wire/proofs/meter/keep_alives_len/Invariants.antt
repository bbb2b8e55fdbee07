use Prim.Native.Nat.{◌+◌, ◌-◌, ◌*◌, ◌≤◌}
use mathlib.Core.Path.{◌≡◌}
use lib.ListN.{length}
use Rattle.wing_wire.specs.Meter.{keep_alives}
use Rattle.wing_wire.proofs.meter.keep_alives_len.Given as goal

abbrev pub invariant-loop-id : goal.invariant-loop-id
invariant-loop-id l =
    (length l.scratch ≡ 1) × (l.id ≤ l.last_id) × (l.total ≤ 13 * (l.last_id - l.id)) × (l.total + length (keep_alives l.port l.id) ≡ length (keep_alives l.port l.last_id))

abbrev pub decreases-loop-id : goal.decreases-loop-id
decreases-loop-id l = l.id
