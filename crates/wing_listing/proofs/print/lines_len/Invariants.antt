use Prim.Native.Nat.{◌+◌, ◌*◌, ◌≤◌}
use mathlib.Core.Path.{◌≡◌}
use lib.ListN.{length}
use Rattle.wing_mirror.specs.Record.{full}
use Rattle.wing_mirror.specs.Table.{table as table_of, rows}
use Rattle.wing_listing.specs.Steps.{lines_of}
use Rattle.wing_listing.proofs.Printing.Lines.{left}
use Rattle.wing_listing.proofs.print.lines_len.Given as goal

abbrev pub invariant-loop-number : goal.invariant-loop-number
invariant-loop-number l =
    (length l.scratch ≡ 527) × (l.total ≤ 527 * l.number) × (l.total + length (left l.count l.number l.table) ≡ length (lines_of (rows full (table_of l.table l.count))))
