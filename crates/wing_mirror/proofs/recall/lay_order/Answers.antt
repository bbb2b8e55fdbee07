-- The contract of `send_record` on the record that `row` gives writes its order, whole since there is room (`laid-whole`), and `size_in` gives its
-- length.
use Prim.Native.Nat.{ℕ}
use mathlib.Core.Path.{◌∙◌, ap}
use mathlib.Core.List.{List}
use Rattle.wing_wire.specs.Write.{write_of}
use Rattle.wing_mirror.specs.Record.{well_formed}
use Rattle.wing_mirror.specs.Table.{row_at}
use Rattle.wing_mirror.specs.Sending.{order_in}
use Rattle.wing_mirror.proofs.Calls.Sends.{laid-whole}
use Rattle.wing_mirror.proofs.recall.lay_order.Goals as goal

pub send_record-sent-requires : goal.send_record-sent-requires
send_record-sent-requires c = ap well_formed c.row.ensures ∙ c.requires.1

pub returns : goal.returns
returns c =
    let e = c.send_record-sent.ensures ∙ ap (λ (r : List ℕ). write_of (order_in r) c.args.out.now) c.row.ensures in
    rw c.size_in.ensures (laid-whole c.send_record-sent.result (order_in (row_at c.args.number c.args.table.now)) c.args.out.now c.send_record-sent.new.out e c.requires.2)
