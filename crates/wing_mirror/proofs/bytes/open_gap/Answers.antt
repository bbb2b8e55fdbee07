-- The invariant: the bytes from i to the end are moved up by w, and the others are as they were (`moved`); a turn moves one more (law `again`).
use Rattle.wing_mirror.proofs.Tables.Moves.{moved, no_move, again}
use lib.ListN.{length-set}
use native.Mathlib.Omega.{arith}
use mathlib.Core.Path.{◌≡◌, ◌∙◌}
use Rattle.wing_mirror.proofs.bytes.open_gap.Goals as goal

pub loop-i-init : goal.loop-i-init
loop-i-init c = (omega arith, omega arith, omega arith, no_move _ _ _)

pub loop-i-preserved : goal.loop-i-preserved
loop-i-preserved c = (omega arith, omega arith, simp length-set (omega arith), rw c.loop-i.invariant.3 (again _ _ _ _ (omega arith) (omega arith) (omega arith)))

pub returns : goal.returns
unfolding moved
returns c = let z : c.loop-i.i ≡ c.args.from = omega arith in c.loop-i.invariant.3 ∙ rw z
