-- By the contract of the walker's `begin_over` the answer is `begin_of`, of which `begin_call` says what is promised.
use Rattle.promises.proofs.Parses.{begin_call}
use Rattle.promises.proofs.node.begin_over.Goals as goal

pub returns : goal.returns
returns c = rw c.begin_over.ensures (begin_call c.args.body.now)
