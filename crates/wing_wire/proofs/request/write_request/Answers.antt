-- No request is over 10 bytes (`request-le`).
use borrow.Author.Rules.{rules}
use Rattle.wing_wire.specs.Command.{request_bytes}
use Rattle.wing_wire.proofs.Writing.Sizes.{request-le}
use Rattle.wing_wire.proofs.request.write_request.Goals as goal

pub write_by-requires-clause-bounded : goal.write_by-requires-clause-bounded
write_by-requires-clause-bounded c = (request_bytes c.args.what c.args.id, λ d r e p. search rules, request-le c.args.what c.args.id)
