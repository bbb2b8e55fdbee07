-- By the contract of the mirror's `recall` the answer and the output are those of `recall_of`, of which `recall-call` says what is promised, as the
-- table's elements are bytes (`are-bytes`).
use mathlib.Core.Path.{sym, subst}
use Rattle.wing_wire.specs.Write.{WriteEffect}
use Rattle.wing_mirror.specs.Table.{table}
use Rattle.promises.specs.Mirror.{RecallCall}
use Rattle.promises.proofs.Typed.{are-bytes}
use Rattle.promises.proofs.Calls.{recall-call}
use Rattle.promises.proofs.mirror.recall.Goals as goal

pub returns : goal.returns
returns c =
    let t = table c.args.table.now c.args.count in
    let out = c.args.out.now in
    subst (λ (x : WriteEffect). RecallCall t out x.answer x.out) (sym c.recall.ensures)
    (recall-call t out (are-bytes c.args.table.now (λ i. (c.type_inv.table i).fits)))
