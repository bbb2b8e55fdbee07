-- No integer order is over 18 bytes (`set-int-le`).
use borrow.Author.Rules.{rules}
use Rattle.wing_node.specs.Value.{integer}
use Rattle.wing_wire.specs.Command.{set_bytes}
use Rattle.wing_wire.proofs.Writing.Sizes.{set-int-le}
use Rattle.wing_wire.proofs.set.set_int.Goals as goal

pub write_by-requires-clause-bounded : goal.write_by-requires-clause-bounded
write_by-requires-clause-bounded c = (set_bytes c.args.id (integer c.args.value), λ d r e p. search rules, set-int-le c.args.id c.args.value)
