-- By the contract of the wire's `decode_next` the answer is `decode_next_of`, of which `decode_call` says what is promised.
use Rattle.promises.proofs.Decodes.{decode_call}
use Rattle.promises.proofs.wire.decode_next.Goals as goal

pub returns : goal.returns
returns c =
    let a = c.args in
    rw c.decode_next.ensures (decode_call a.e a.bytes.now a.at)
