use Rattle.wing_meters.specs.Window.{window}
use Rattle.wing_meters.proofs.Follows.{Onward}
use Rattle.wing_meters.proofs.reading.follow.Given as goal

abbrev pub invariant-loop-i : goal.invariant-loop-i
invariant-loop-i l = Onward (window l.initial.after.control l.initial.levels) l.xs l.initial.out (window l.after.control l.levels) l.out l.i
