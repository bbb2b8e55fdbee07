-- By the contract of the value's `get_string` the answer is `answer_of`, which tells the string of `string_in` (`answers_agree`).
use Rattle.wing_node.specs.Value.{node_value}
use Rattle.wing_node.proofs.Results.{answers_agree}
use Rattle.promises.proofs.node.get_string.Goals as goal

pub returns : goal.returns
returns c = rw c.get_string.ensures (answers_agree.string (node_value c.args.v c.args.bytes))
