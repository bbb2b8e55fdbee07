-- By the contract of the mirror's `lookup` the answer is `lookup_answer`, of which `lookup-call` says what is promised, as the table's elements are
-- bytes (`are-bytes`).
use mir.Facts.{to_z-of_z}
use Rattle.wing_mirror.specs.Table.{table}
use Rattle.promises.proofs.Typed.{are-bytes}
use Rattle.promises.proofs.Calls.{lookup-call}
use Rattle.promises.proofs.mirror.lookup.Goals as goal

pub returns : goal.returns
returns c =
    rw (c.lookup.ensures, to_z-of_z c.ranges.id)
    (lookup-call (table c.args.table.now c.args.count) c.args.id (are-bytes c.args.table.now (λ i. (c.type_inv.table i).fits)) c.ranges.id.sfits)
