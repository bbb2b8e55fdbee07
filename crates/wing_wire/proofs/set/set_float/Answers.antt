-- No float order is over 18 bytes (`set-float-le`).
use borrow.Author.Rules.{rules}
use Rattle.wing_node.specs.Value.{float}
use Rattle.wing_wire.specs.Command.{set_bytes}
use Rattle.wing_wire.proofs.Writing.Sizes.{set-float-le}
use Rattle.wing_wire.proofs.set.set_float.Goals as goal

pub write_by-requires-clause-bounded : goal.write_by-requires-clause-bounded
write_by-requires-clause-bounded c = (set_bytes c.args.id (float c.args.bits), λ d r e p. search rules, set-float-le c.args.id c.args.bits)
