-- The law `counted` of wing_node.
use Rattle.wing_node.proofs.Worked.{counted}
use Rattle.promises.proofs.utf8_cases.Goals as goal

pub returns : goal.returns
returns c = counted
