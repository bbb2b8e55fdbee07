-- By the contract of the wire's `next` the reply is `next_of`, of which `next-call` says what is promised.
use borrow.Author.Rules.{rules}
use Rattle.promises.proofs.NextCalls.{next-call}
use Rattle.promises.proofs.wire.next.Goals as goal

pub returns : goal.returns
returns c =
    let a = c.args in
    rw c.next.ensures.value (next-call a.s a.bytes.now (search rules))
