use Prim.Native.Nat.{◌+◌}
use mathlib.Core.Path.{◌≡◌}
use lib.ListN.{length}
use lib.Seq.{sets}
use Rattle.wing_wire.specs.Meter.{keep_alives}
use Rattle.wing_wire.proofs.meter.lay_keep_alives.Given as goal

abbrev pub invariant-loop-id : goal.invariant-loop-id
invariant-loop-id l =
    (length l.out ≡ length l.initial.out) × (l.at + length (keep_alives l.port l.id) ≡ length (keep_alives l.port l.last_id)) × (sets l.out l.at (keep_alives l.port l.id) ≡ sets l.initial.out 0 (keep_alives l.port l.last_id))

abbrev pub decreases-loop-id : goal.decreases-loop-id
decreases-loop-id l = l.id
