-- The chunk at a number is the row there (`chunk-row`).
use Prim.Native.Nat.{◌/◌, ◌<◌}
use borrow.Author.Rules.{rules}
use lib.ListN.{length}
use Rattle.wing_mirror.proofs.Records.Said.{chunk-row}
use Rattle.wing_listing.proofs.row.print_record.Goals as goal

pub lay_entry-requires : goal.lay_entry-requires
lay_entry-requires c =
    let t = c.args.table.now in
    let n = c.args.number in
    let below : n < length t / 264 = search rules in
    rw (chunk-row 264 (length t / 264) n t below c.as_chunks.ensures.front) (c.requires.1, c.requires.2)

pub returns : goal.returns
returns c =
    let t = c.args.table.now in
    let n = c.args.number in
    let below : n < length t / 264 = search rules in
    rw (chunk-row 264 (length t / 264) n t below c.as_chunks.ensures.front) at c.lay_entry.ensures
