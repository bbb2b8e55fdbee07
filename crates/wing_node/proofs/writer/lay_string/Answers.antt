-- The length byte and what `lay` lays after it are the string as it is laid.
use Prim.Native.Nat.{suc, ◌+◌}
use mathlib.Core.Path.{◌≡◌}
use native.Mathlib.Omega.{arith}
use lib.ListN.{length-set}
use Rattle.wing_node.specs.Laid.{laid}
use Rattle.wing_node.proofs.writer.lay_string.Goals as goal

pub lay-requires : goal.lay-requires
lay-requires c = simp length-set (omega arith)

pub returns : goal.returns
unfolding laid
returns c =
    let args = c.args in
    let e : args.at + 1 ≡ suc args.at = omega arith in
    (omega (arith, c.lay.ensures.0), rw e at c.lay.ensures.1)
