-- By the contract of the wire's `carry_over` the answer is `carry_of`, of which `carry-call` says what is promised.
use Rattle.promises.proofs.Carries.{carry-call}
use Rattle.promises.proofs.wire.carry_over.Goals as goal

pub returns : goal.returns
returns c = rw c.carry_over.ensures (carry-call c.args.s)
