use Prim.Native.Nat.{◌≤◌, ◌<◌}
use mathlib.Core.Path.{◌≡◌}
use mathlib.Core.List.{map}
use lib.ListN.{length, take, drop}
use Rattle.wing_mirror.specs.Rows.{laid}
use Rattle.wing_mirror.specs.Record.{width, record_of}
use Rattle.wing_listing.specs.Reading.{reading_of, entries_in}
use Rattle.wing_listing.proofs.Texts.Scans.{Left}
use Rattle.wing_listing.proofs.load.lay_lines.Given as goal

abbrev pub invariant-loop-number : goal.invariant-loop-number
invariant-loop-number l =
    (l.number ≤ l.count) × (length l.table ≡ length l.initial.table) × (l.table ≡ laid width (map record_of (take l.number (entries_in (reading_of l.text)))) l.initial.table) ×
    (l.number < l.count → Left (drop l.at l.text) (drop l.number (entries_in (reading_of l.text))))
