-- The chunk at a number is the row there (`chunk-row`).
use Prim.Native.Nat.{◌/◌, ◌<◌}
use borrow.Author.Rules.{rules}
use lib.ListN.{length}
use Rattle.wing_mirror.proofs.Records.Said.{chunk-row}
use Rattle.wing_mirror.proofs.table.row.Goals as goal

pub returns : goal.returns
returns g c =
    let t = c.args.table.now in
    let n = c.args.number in
    let below : n < length t / g.row.W = search rules in
    chunk-row g.row.W (length t / g.row.W) n t below c.as_chunks.ensures.front
