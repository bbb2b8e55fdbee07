-- The law `walking` of the parser and the item calls, for a body that is taken since all its fields stand (`whole-taken`).
use Rattle.wing_node.proofs.Bodies.Walks.{definitions}
use Rattle.promises.proofs.Parses.{whole-taken}
use Rattle.promises.proofs.demand_1_walks.Goals as goal

pub returns : goal.returns
returns c = λ body w. definitions.walking body (whole-taken body w)
