-- By the contract of the mirror's `record` the reply is `record_answer`, of which `record-call` says what is promised, as the table's elements are
-- bytes (`are-bytes`).
use Rattle.wing_mirror.specs.Table.{table}
use Rattle.promises.proofs.Typed.{are-bytes}
use Rattle.promises.proofs.Calls.{record-call}
use Rattle.promises.proofs.mirror.record.Goals as goal

pub returns : goal.returns
returns c =
    rw c.record.ensures
    (record-call (table c.args.table.now c.args.count) c.args.number (are-bytes c.args.table.now (λ i. (c.type_inv.table i).fits)))
