use mathlib.Core.Path.{◌≡◌}
use Rattle.wing_mirror.specs.Rows.{records}
use Rattle.wing_mirror.specs.Record.{key_of, well_formed}
use Rattle.wing_mirror.specs.Table.{checked_of}
use Rattle.wing_mirror.proofs.Tables.Tests.{from}
use Rattle.wing_mirror.proofs.table.all_pass.Given as goal

abbrev pub invariant-loop-number : goal.invariant-loop-number
invariant-loop-number l = checked_of key_of well_formed (records 264 l.count l.table) ≡ checked_of key_of well_formed (from 264 l.count l.number l.table)
