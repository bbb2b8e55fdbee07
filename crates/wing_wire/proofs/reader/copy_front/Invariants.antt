use mathlib.Core.Path.{◌≡◌}
use lib.ListN.{length, take}
use Rattle.wing_wire.specs.Reader.{over}
use Rattle.wing_wire.proofs.reader.copy_front.Given as goal

abbrev pub invariant-loop-i : goal.invariant-loop-i
invariant-loop-i l = (length l.out ≡ length l.initial.out) × (l.out ≡ over (take l.i l.s) l.initial.out)
