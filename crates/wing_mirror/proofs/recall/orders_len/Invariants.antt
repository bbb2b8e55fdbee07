use Prim.Native.Nat.{◌+◌, ◌*◌, ◌≤◌}
use mathlib.Core.Path.{◌≡◌}
use lib.ListN.{length}
use Rattle.wing_mirror.specs.Record.{full}
use Rattle.wing_mirror.specs.Table.{table as table_of, rows}
use Rattle.wing_mirror.specs.Sending.{orders_of}
use Rattle.wing_mirror.proofs.Calls.Sends.{left}
use Rattle.wing_mirror.proofs.recall.orders_len.Given as goal

abbrev pub invariant-loop-number : goal.invariant-loop-number
invariant-loop-number l =
    (length l.scratch ≡ 395) × (l.total ≤ 395 * l.number) × (l.total + length (left l.count l.number l.table) ≡ length (orders_of (rows full (table_of l.table l.count))))
