use mathlib.Core.Path.{◌≡◌}
use lib.Dec.{eqb}
use lib.ListN.{drop}
use Rattle.wing_node.specs.Bool.{and}
use Rattle.wing_wire.specs.State.{zeros}
use Rattle.wing_wire.proofs.state.zeros_from.Given as goal

abbrev pub invariant-loop-b : goal.invariant-loop-b
invariant-loop-b l = zeros l.b-items ≡ and (eqb l.bits 0) (zeros (drop l.b-index l.b-items))
