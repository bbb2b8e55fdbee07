-- A text begins with the header's line, and the lines after it are `scan_lines`', or it does not.
use mathlib.Core.Path.{sym, ap, ◌∙◌}
use lib.ListN.{take}
use Rattle.wing_mirror.proofs.Records.Equals.{bytes-equal}
use Rattle.wing_mirror.specs.Rows.{nothing}
use Rattle.wing_listing.specs.Parts.{newline, parted, ended}
use Rattle.wing_listing.specs.Reading.{lines_from}
use Rattle.wing_listing.specs.Listing.{header}
use Rattle.wing_listing.specs.Steps.{scanned_as}
use Rattle.wing_listing.proofs.Texts.Scans.{headed, headless}
use Rattle.wing_listing.proofs.scan.scan.Goals as goal

pub returns-in-Some : goal.returns-in-Some
returns-in-Some c =
    let text = c.args.text.now in
    let e = c.in-Some.ensures.cases in
    c.scan_lines.ensures ∙ ap (λ r. scanned_as (lines_from 2 nothing (parted newline r))) e.1 ∙ ap scanned_as (sym (headed text (sym (bytes-equal (take 14 text) (ended header)) ∙ e.0)))

pub returns-in-None : goal.returns-in-None
unfolding scanned_as
returns-in-None c =
    let text = c.args.text.now in
    c.bad.ensures ∙ ap scanned_as (sym (headless text (sym (bytes-equal (take 14 text) (ended header)) ∙ c.in-None.ensures.cases)))
