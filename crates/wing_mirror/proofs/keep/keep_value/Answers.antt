-- The contract of `lay_record` gives the value's record and that of `put` whether it was taken, which are the two branches of `keep_event`
-- (`put-kept`).
use mathlib.Core.Path.{refl, ◌∙◌, ap}
use mathlib.Core.Bool.{true, false}
use native.Mathlib.Omega.{arith}
use lib.IntN.{ℤ}
use mir.Facts.{to_z-of_z}
use Rattle.wing_node.specs.Value.{node_value}
use Rattle.wing_mirror.specs.Record.{full}
use Rattle.wing_mirror.specs.Entry.{entry}
use Rattle.wing_mirror.specs.Record.{record_of}
use Rattle.wing_mirror.specs.Table.{table}
use Rattle.wing_mirror.specs.Order.{put_row}
use Rattle.wing_mirror.specs.declared.origin.Origin.TheVariants.{Console}
use Rattle.wing_mirror.proofs.Records.Ready.{in_order_lem, put_is}
use Rattle.wing_mirror.proofs.Calls.Turns.{put-kept}
use Rattle.wing_mirror.proofs.keep.keep_value.Goals as goal

pub put-requires : goal.put-requires
put-requires c =
    (omega arith, in_order_lem (table c.args.table.now c.args.t.now.count) c.requires.0)

pub returns-in-Some : goal.returns-in-Some
returns-in-Some c =
    let v = node_value c.args.value c.args.string.now in
    let e = c.lay_record.ensures ∙ ap (λ (x : ℤ). record_of (entry x v Console)) (to_z-of_z c.ranges.node) in
    let t = table c.args.table.now c.args.t.now.count in
    rw c.tick.ensures (put-kept full c.args.node v t c.args.t.now.counts c.lay_record.new.out (record { after = table c.put.new.table c.in-Some.count; taken = true }) refl e (◌∙◌ {b = put_row 264 c.lay_record.new.out t} c.in-Some.ensures (put_is c.lay_record.new.out t)))

pub returns-in-None : goal.returns-in-None
returns-in-None c =
    let v = node_value c.args.value c.args.string.now in
    let e = c.lay_record.ensures ∙ ap (λ (x : ℤ). record_of (entry x v Console)) (to_z-of_z c.ranges.node) in
    let t = table c.args.table.now c.args.t.now.count in
    rw c.tick-in-None.ensures (put-kept full c.args.node v t c.args.t.now.counts c.lay_record.new.out (record { after = table c.put.new.table c.args.t.now.count; taken = false }) refl e (◌∙◌ {b = put_row 264 c.lay_record.new.out t} c.in-None.ensures (put_is c.lay_record.new.out t)))
