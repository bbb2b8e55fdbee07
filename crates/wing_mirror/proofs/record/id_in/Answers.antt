-- The contract of `i32_at` on the first four bytes, which stand whole (`id-said`).
use mathlib.Core.Path.{◌≡◌}
use mir.Syntax.{w32}
use mir.Val.{to_z, of_z}
use Rattle.wing_mirror.proofs.Records.Said.{id-said}
use borrow.Author.Rules.{rules}
use Rattle.wing_mirror.proofs.record.id_in.Goals as goal

pub returns : goal.returns
returns c =
    let id = c.number_at.result in
    let back : to_z w32 (of_z w32 id) ≡ id = search rules in
    rw back (id-said c.args.rec.now c.told-rec id c.number_at.ensures)
