-- The law `entry-right`, computed at each of 256 first units, says that the entries of the two columns are the table's row.
use borrow.Author.Rules.{rules}
use Rattle.wing_wire.proofs.Reading.Columns.{class_column, wants_column, entry_of, entry-right}
use Rattle.wing_wire.proofs.token.rule_of.Goals as goal

pub returns : goal.returns
unfolding class_column wants_column entry_of
returns c = rw (c.from.ensures, c.from-i.ensures) (entry-right c.args.t (search rules))
