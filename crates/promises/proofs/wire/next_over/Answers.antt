-- By the contract of the wire's `next_over` the reply and the state together are `next_of`, of which `next-call` says what is promised.
use borrow.Author.Rules.{rules}
use Rattle.promises.proofs.NextCalls.{next-call}
use Rattle.promises.proofs.wire.next_over.Goals as goal

pub returns : goal.returns
returns c =
    let a = c.args in
    rw c.next_over.ensures.0 (next-call a.s a.bytes.now (search rules))
