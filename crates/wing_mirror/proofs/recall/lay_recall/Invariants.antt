use Prim.Native.Nat.{◌+◌, ◌≤◌}
use mathlib.Core.Path.{◌≡◌}
use lib.ListN.{length}
use lib.Seq.{sets}
use Rattle.wing_mirror.specs.Record.{full}
use Rattle.wing_mirror.specs.Table.{table as table_of}
use Rattle.wing_mirror.specs.Recall.{recall_bytes}
use Rattle.wing_mirror.proofs.Calls.Sends.{left}
use Rattle.wing_mirror.proofs.recall.lay_recall.Given as goal

abbrev pub invariant-loop-number : goal.invariant-loop-number
invariant-loop-number l =
    (length l.out ≡ length l.initial.out) × (l.at + length (left l.count l.number l.table) ≡ length (recall_bytes full (table_of l.table l.count))) × (length (recall_bytes full (table_of l.table l.count)) ≤ length l.out) × (sets l.out l.at (left l.count l.number l.table) ≡ sets l.initial.out 2 (left l.count 0 l.table))
