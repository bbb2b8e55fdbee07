-- By the contract of `items_begin` the answer is `begin_of`, of which `begin_call` says what is promised.
use Rattle.promises.proofs.Parses.{begin_call}
use Rattle.promises.proofs.node.items_begin.Goals as goal

pub returns : goal.returns
returns c = rw c.items_begin.ensures (begin_call c.args.body.now)
