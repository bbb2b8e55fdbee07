-- By the contract of the mirror's `is_usable` the answer is `usable`, of which `table-bytes` says in figures what it is, as the table's elements are bytes
-- (`are-bytes`).
use Rattle.wing_mirror.specs.Table.{table}
use Rattle.promises.proofs.Typed.{are-bytes}
use Rattle.promises.proofs.Tables.{table-bytes}
use Rattle.promises.proofs.mirror.is_usable.Goals as goal

pub returns : goal.returns
returns c =
    let said = table-bytes.taken (table c.args.table.now c.args.count) (are-bytes c.args.table.now (λ i. (c.type_inv.table i).fits)) in
    rw c.is_usable.ensures (record { right = said.0; whole = said.1 })
