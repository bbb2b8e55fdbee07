-- By the contract of the walker's `step_over` the answer is `step_at`, of which `step_call` says what is promised.
use Rattle.promises.proofs.Parses.{step_call}
use Rattle.promises.proofs.node.step_over.Goals as goal

pub returns : goal.returns
returns c =
    let a = c.args in
    rw c.step_over.ensures (step_call a.body.now a.w)
