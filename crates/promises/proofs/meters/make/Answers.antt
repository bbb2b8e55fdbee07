-- By the contract of wing_meters' `make` the answer is `made_of`, of which `make_call` says what is promised.
use Rattle.promises.proofs.Windows.{make_call}
use Rattle.promises.proofs.meters.make.Goals as goal

pub returns : goal.returns
returns c = rw c.make.ensures (make_call c.args.width)
