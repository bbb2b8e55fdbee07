-- The contract of `set_value`, with the string's form from the tests (`storable-string`); each refusal is a case of `mirror_set` (`long-string`,
-- `bad-string`).
use mathlib.Core.Path.{refl, sym, ◌∙◌}
use mir.Facts.{to_z-of_z}
use native.Mathlib.Omega.{arith}
use lib.ListN.{length}
use lib.Seq.{take_all}
use Rattle.wing_node.specs.Value.{node_value}
use Rattle.wing_node.proofs.Refusals.{string-right, string-wrong}
use Rattle.wing_mirror.specs.Record.{full}
use Rattle.wing_mirror.specs.Table.{table}
use Rattle.wing_mirror.proofs.Calls.Orders.{storable-string, long-string, bad-string}
use Rattle.wing_mirror.proofs.set.set_string.Goals as goal

pub set_value-requires : goal.set_value-requires
unfolding node_value
set_value-requires c =
    let v = c.args.value.now in
    let short = c.if-value-le256.true in
    let u = string-right v (sym (rw (take_all 256 v short) at c.string_fault.ensures) ∙ c.in-Ok.is) in
    rw (take_all (length v) v (omega arith)) (storable-string v short u)

pub returns-in-Ok : goal.returns-in-Ok
unfolding node_value
returns-in-Ok c =
    let v = c.args.value.now in
    rw (to_z-of_z c.ranges.id, take_all (length v) v (omega arith)) at c.set_value.ensures

pub returns-in-Err : goal.returns-in-Err
returns-in-Err c =
    let a = c.args in
    let v = a.value.now in
    let short = c.if-value-le256.true in
    let w = string-wrong v _ (sym (rw (take_all 256 v short) at c.string_fault.ensures) ∙ c.in-Err.is) in
    rw (c.refused_string.ensures, w.1) (bad-string full a.id v (table a.table.now a.count) a.out.now refl short w.0)

pub returns : goal.returns
returns c =
    let a = c.args in
    rw c.refused_string-2.ensures (long-string full a.id a.value.now (table a.table.now a.count) a.out.now refl c.if-value-le256.false)
