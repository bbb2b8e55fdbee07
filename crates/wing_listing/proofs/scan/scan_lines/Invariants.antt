use Prim.Native.Nat.{◌+◌, ◌-◌, ◌≤◌}
use mathlib.Core.Path.{◌≡◌}
use lib.ListN.{length}
use Rattle.std.specs.Slice.Iter.{split_inclusive_rest}
use Rattle.wing_mirror.specs.Rows.{nothing}
use Rattle.wing_listing.specs.Parts.{newline, parted}
use Rattle.wing_listing.specs.Reading.{lines_from}
use Rattle.wing_listing.specs.Steps.{id_before, scanned_as}
use Rattle.wing_listing.proofs.Texts.Scans.{counted}
use Rattle.wing_listing.proofs.scan.scan_lines.Given as goal

abbrev pub invariant-loop-ended : goal.invariant-loop-ended
invariant-loop-ended l =
    (2 ≤ l.number) × (l.number + length (split_inclusive_rest l.ended-iterator) ≤ length l.text + 2) ×
    (counted (l.number - 2) (lines_from l.number (id_before l.before) (parted newline (split_inclusive_rest l.ended-iterator))) ≡ scanned_as (lines_from 2 nothing (parted newline l.text)))
