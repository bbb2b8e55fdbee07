use Prim.Native.Nat.{◌+◌}
use mathlib.Core.Bool.{true}
use mathlib.Core.Path.{◌≡◌}
use Rattle.std.proofs.Common.{Err}
use Rattle.wing_mirror.specs.Rows.{records, rising}
use Rattle.wing_mirror.specs.Record.{key_of}
use Rattle.wing_mirror.specs.HighEnd.{counted_of}
use Rattle.wing_mirror.proofs.Tables.HighEnd.{counted_from}
use Rattle.wing_mirror.proofs.order.search_down.Given as goal

abbrev pub invariant-loop-number : goal.invariant-loop-number
invariant-loop-number g l =
    (l.reads + l.number ≡ l.count) ×
    (l.position ≡ Err l.number) ×
    (counted_of key_of l.key (records g.row.W l.count l.table) ≡ counted_from l.reads key_of l.key (records g.row.W l.number l.table)) ×
    (rising key_of (records g.row.W l.number l.table) ≡ true)
