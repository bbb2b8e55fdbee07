-- By the contract of `item_step` the answer is `step_at`, of which `step_call` says what is promised.
use Rattle.promises.proofs.Parses.{step_call}
use Rattle.promises.proofs.node.item_step.Goals as goal

pub returns : goal.returns
returns c =
    let a = c.args in
    rw c.item_step.ensures (step_call a.body.now a.walk)
