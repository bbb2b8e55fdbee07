-- The law `reads-back`: fields that fit their forms are read back one after the other, whatever follows them.
use Rattle.wing_node.proofs.Bodies.Whole.{reads-back}
use Rattle.promises.proofs.demand_2_definitions.Goals as goal

pub returns : goal.returns
returns c = reads-back
