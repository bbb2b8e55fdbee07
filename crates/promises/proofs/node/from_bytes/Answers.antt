-- By the contract of the parser the answer is `definition_of`, of which `parser-call` says what is promised.
use Rattle.promises.proofs.Parses.{parser-call}
use Rattle.promises.proofs.node.from_bytes.Goals as goal

pub returns : goal.returns
returns c = rw c.from_bytes.ensures (parser-call c.args.body.now)
