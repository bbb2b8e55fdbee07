-- By the contract of the mirror's `same` the answer is `same_answer`, of which `same-call` says what is promised.
use Rattle.promises.proofs.Calls.{same-call}
use Rattle.promises.proofs.mirror.same.Goals as goal

pub returns : goal.returns
returns c = rw c.same.ensures (same-call _ _)
