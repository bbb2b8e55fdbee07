-- The law `both_ways` of wing_node.
use Rattle.wing_node.proofs.Bodies.Anew.{both_ways}
use Rattle.promises.proofs.demand_2_both_ways.Goals as goal

pub returns : goal.returns
returns c = both_ways
