-- The contract of `lay` puts the first bytes of the payload, as many as `min` says, over zeros, which is what the entry says (`string-said`).
use mathlib.Core.Path.{sym, ◌≡◌}
use native.Mathlib.Omega.{arith}
use mir.Facts.{to_z-of_z}
use borrow.Author.Rules.{rules}
use lib.ListN.{length, length-take}
use lib.Seq.{length-take-le}
use Rattle.wing_mirror.proofs.Records.Said.{string-said}
use Rattle.wing_mirror.proofs.query.string_read.Goals as goal

pub slice_bounds-lay-end-2 : goal.slice_bounds-lay-end-2
slice_bounds-lay-end-2 c =
    let size : length c.args.payload.now ≡ 256 = search rules in
    sym (length-take-le _ _ (omega (arith, c.min-len.ensures, size)))

pub lay-requires : goal.lay-requires
lay-requires c = omega (arith, c.min-len.ensures, length-take c.min-len.result c.args.payload.now)

pub returns : goal.returns
returns c =
    let size : length c.args.payload.now ≡ 256 = search rules in
    rw (to_z-of_z c.ranges.id) (string-said c.args.id c.args.origin c.args.n c.min-len.result c.args.payload.now _ size c.min-len.ensures c.lay.ensures)
