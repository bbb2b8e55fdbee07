use mathlib.Core.Path.{◌≡◌}
use Prim.Native.Nat.{◌+◌, ◌-◌, ◌*◌}
use lib.ListN.{length}
use Rattle.wing_wire.specs.Stream.{step_effect}
use Rattle.wing_wire.specs.Units.{pending_count}
use Rattle.wing_wire.specs.Plain.{stepped_effect}
use Rattle.wing_wire.proofs.Reading.Plains.{whole}
use Rattle.wing_wire.proofs.stream.advance.Given as goal

abbrev pub invariant-loop-t : goal.invariant-loop-t
invariant-loop-t l = (length l.store ≡ length l.initial.store) × (whole l.bytes (stepped_effect (step_effect l.initial.t l.initial.store) 0) ≡ whole l.bytes (stepped_effect (step_effect l.t l.store) l.i))

abbrev pub decreases-loop-t : goal.decreases-loop-t
decreases-loop-t l = 2 * (length l.bytes - l.i) + pending_count l.t.control.escape.pending
