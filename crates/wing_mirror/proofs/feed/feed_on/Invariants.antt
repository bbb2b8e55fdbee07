use mathlib.Core.Path.{◌≡◌}
use lib.ListN.{length}
use Rattle.wing_mirror.specs.Record.{full}
use Rattle.wing_mirror.specs.Table.{table as table_of}
use Rattle.wing_mirror.specs.Counts.{zero_counts}
use Rattle.wing_mirror.specs.Mirror.{table_tally}
use Rattle.wing_mirror.specs.Tally.{tally_of}
use Rattle.wing_mirror.proofs.Calls.Turns.{FeedInvariant, fed, left}
use Rattle.wing_mirror.proofs.feed.feed_on.Given as goal

abbrev pub invariant-loop-a : goal.invariant-loop-a
invariant-loop-a l =
    (length l.store ≡ length l.initial.store) × (length l.table ≡ length l.initial.table) × FeedInvariant full l.bytes (fed l.initial.c l.initial.store (table_tally (table_of l.initial.table l.count) zero_counts)) l.c l.store (tally_of l.t l.table) l.i

abbrev pub decreases-loop-a : goal.decreases-loop-a
decreases-loop-a l = left l.bytes l.c l.i
