-- The invariant: the first i bytes of src stand from the place on; a turn lays one more (`lay-more`).
use lib.ListN.{length-set}
use Rattle.wing_node.proofs.Numerals.Placed.{lay-more}
use Rattle.wing_node.proofs.writer.lay.Goals as goal

pub loop-i-preserved : goal.loop-i-preserved
loop-i-preserved c =
    let args = c.args in
    let i = c.loop-i.i in
    (simp length-set c.loop-i.invariant.0, rw c.loop-i.invariant.1 (lay-more args.out.now args.src.now args.at i c.loop-i-test.true))
