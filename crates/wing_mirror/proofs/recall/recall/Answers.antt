-- Each return is a case of `recall_of` (`unusable`, `recalled`): out is too short by what `orders_len` counts, or has room, by that count or by 395
-- bytes a record (`orders-le`), and `lay_recall` writes all.
use mathlib.Core.Path.{sym, ◌∙◌}
use native.Mathlib.Omega.{arith}
use Rattle.wing_wire.proofs.Laws.{writer-laws}
use Rattle.wing_mirror.specs.Record.{full}
use Rattle.wing_mirror.specs.Table.{table as table_of}
use Rattle.wing_mirror.specs.Recall.{recall_bytes}
use Rattle.wing_mirror.proofs.Calls.Sends.{few-records, orders-le, recall-size, recalled, unusable}
use borrow.Author.Rules.{rules}
use Rattle.wing_mirror.proofs.recall.recall.Goals as goal
use Rattle.wing_mirror.proofs.recall.recall.Goals.{else-out-count-via-then-out-count+else-out-orders_len, else-out-count-via-else-out-count}

pub overflow_mul-count : goal.overflow_mul-count
overflow_mul-count c =
    let a = c.args in
    let f = few-records (table_of a.table.now a.count) (sym c.is_usable.ensures ∙ c.if-is_usable.true) in
    search rules

pub overflow_add-count : goal.overflow_add-count
overflow_add-count c =
    let a = c.args in
    let f = few-records (table_of a.table.now a.count) (sym c.is_usable.ensures ∙ c.if-is_usable.true) in
    search rules

pub orders_len-requires : goal.orders_len-requires
orders_len-requires c = sym c.is_usable.ensures ∙ c.if-is_usable.true

pub overflow_add-orders_len : goal.overflow_add-orders_len
overflow_add-orders_len c =
    let a = c.args in
    let t = table_of a.table.now a.count in
    let u = sym c.is_usable.ensures ∙ c.if-is_usable.true in
    let f = few-records t u in
    let l = orders-le t u in
    let n = c.orders_len.ensures in
    search rules

pub returns-then-out-orders_len : goal.returns-then-out-orders_len
returns-then-out-orders_len c =
    let a = c.args in
    let t = table_of a.table.now a.count in
    let u = sym c.is_usable.ensures ∙ c.if-is_usable.true in
    writer-laws.short (recall_bytes full t) a.out.now (omega (arith, recall-size t, c.orders_len.ensures, c.if-out-orders_len.true)) ∙ recalled t a.out.now u

pub lay_recall-requires : goal.lay_recall-requires
lay_recall-requires c =
    let a = c.args in
    let t = table_of a.table.now a.count in
    let u = sym c.is_usable.ensures ∙ c.if-is_usable.true in
    let s = recall-size t in
    (u, elim c.else-out-count.branch [ else-out-count-via-then-out-count+else-out-orders_len w ↦ omega arith | else-out-count-via-else-out-count w ↦ omega (arith, orders-le t u) ])

pub returns-then-is_usable : goal.returns-then-is_usable
returns-then-is_usable c =
    let a = c.args in
    let t = table_of a.table.now a.count in
    let u = sym c.is_usable.ensures ∙ c.if-is_usable.true in
    let s = recall-size t in
    writer-laws.whole c.lay_recall.ensures (elim c.else-out-count.branch [ else-out-count-via-then-out-count+else-out-orders_len w ↦ omega arith | else-out-count-via-else-out-count w ↦ omega (arith, orders-le t u) ])
    ∙ recalled t a.out.now u

pub returns : goal.returns
returns c =
    let a = c.args in
    unusable (table_of a.table.now a.count) a.out.now (sym c.is_usable.ensures ∙ c.if-is_usable.false)
