-- By the contract of `item_by_number` the answer is `item_numbered`, of which `item_call` says what is promised.
use Rattle.promises.proofs.Parses.{item_call}
use Rattle.promises.proofs.node.item_by_number.Goals as goal

pub returns : goal.returns
returns c = rw c.item_by_number.ensures (item_call c.args.body.now c.args.number)
