-- No formatted id is over 10 bytes (`format-le`).
use borrow.Author.Rules.{rules}
use Rattle.wing_wire.specs.Command.{id_bytes, suffix_bytes}
use Rattle.wing_wire.proofs.Writing.Sizes.{format-le}
use Rattle.wing_wire.proofs.set.format_id.Goals as goal

pub write_by-requires-clause-bounded : goal.write_by-requires-clause-bounded
write_by-requires-clause-bounded c = (id_bytes c.args.prefix c.args.id (suffix_bytes c.args.suffix), λ d r e p. search rules, format-le c.args.prefix c.args.id c.args.suffix)
