-- The returns are the cases of `mirror_set` by what `is_usable` and `has_room` tell: `lay_record`, `send` and `keep_written` make what
-- it writes and stores (`kept-so`), or there is no place (`no_room`), or the table is not usable (`unusable`).
use mathlib.Core.Path.{refl, sym, ◌∙◌}
use native.Mathlib.Omega.{arith}
use mir.Facts.{to_z-of_z}
use Rattle.wing_node.specs.Value.{node_value}
use Rattle.wing_mirror.specs.Record.{full}
use Rattle.wing_mirror.specs.Table.{table}
use Rattle.wing_mirror.proofs.Records.Ready.{in_order_lem}
use Rattle.wing_mirror.proofs.Calls.Orders.{not-long, unusable, no_room, kept-so}
use borrow.Author.Rules.{rules}
use Rattle.wing_mirror.proofs.set.set_value.Goals as goal

pub lay_record-requires : goal.lay_record-requires
lay_record-requires c =
    (search rules, not-long (node_value c.args.value c.args.string.now) c.requires)

pub has_room-requires : goal.has_room-requires
has_room-requires c =
    (omega arith, in_order_lem (table c.args.table.now c.args.count) (sym c.is_usable.ensures ∙ c.if-is_usable.true))

pub keep_written-requires : goal.keep_written-requires
keep_written-requires c =
    sym c.is_usable.ensures ∙ c.if-is_usable.true

pub returns-then-has_room : goal.returns-then-has_room
returns-then-has_room c =
    let a = c.args in
    let v = node_value a.value a.string.now in
    let rec = c.lay_record.new.out in
    let z = to_z-of_z c.ranges.id in
    kept-so full a.id v (table a.table.now a.count) a.out.now (sym c.is_usable.ensures ∙ c.if-is_usable.true) refl c.requires rec (rw z at c.lay_record.ensures) c.has_room.result c.has_room.ensures c.if-has_room.true c.send-written.result c.send-written.new.out (rw z at c.send-written.ensures) c.keep_written.result c.keep_written.new.table c.keep_written.ensures

pub returns-then-is_usable : goal.returns-then-is_usable
returns-then-is_usable c =
    let a = c.args in
    rw c.refused.ensures (no_room full a.id (node_value a.value a.string.now) (table a.table.now a.count) a.out.now (sym c.is_usable.ensures ∙ c.if-is_usable.true) refl c.requires c.lay_record.new.out (rw (to_z-of_z c.ranges.id) at c.lay_record.ensures) c.has_room.result c.has_room.ensures c.if-has_room.false)

pub returns : goal.returns
returns c =
    let a = c.args in
    rw c.refused-2.ensures (unusable full a.id (node_value a.value a.string.now) (table a.table.now a.count) a.out.now (sym c.is_usable.ensures ∙ c.if-is_usable.false))
