-- Each return is a case of `print_of` (`print-unusable`, `print-usable`): out is too short by what `lines_len` counts, or has room, by that count or by 527
-- bytes a record (`lines-le`), and `lay_listing` writes all.
use mathlib.Core.Path.{sym, ◌∙◌}
use native.Mathlib.Omega.{arith}
use Rattle.wing_wire.proofs.Laws.{writer-laws}
use Rattle.wing_mirror.specs.Table.{table as table_of}
use Rattle.wing_mirror.proofs.Calls.Sends.{few-records}
use Rattle.wing_listing.specs.Listing.{printed}
use Rattle.wing_listing.proofs.Printing.Lines.{lines-le, printed-size, print-usable, print-unusable}
use borrow.Author.Rules.{rules}
use Rattle.wing_listing.proofs.print.print.Goals as goal
use Rattle.wing_listing.proofs.print.print.Goals.{else-out-count-via-then-out-count+else-out-lines_len, else-out-count-via-else-out-count}

pub overflow_mul-count : goal.overflow_mul-count
overflow_mul-count c =
    let a = c.args in
    let f = few-records (table_of a.table.now a.count) (sym c.is_usable.ensures ∙ c.if-is_usable.true) in
    search rules

pub overflow_add-count : goal.overflow_add-count
overflow_add-count c =
    let a = c.args in
    let f = few-records (table_of a.table.now a.count) (sym c.is_usable.ensures ∙ c.if-is_usable.true) in
    search rules

pub lines_len-requires : goal.lines_len-requires
lines_len-requires c = sym c.is_usable.ensures ∙ c.if-is_usable.true

pub overflow_add-lines_len : goal.overflow_add-lines_len
overflow_add-lines_len c =
    let a = c.args in
    let t = table_of a.table.now a.count in
    let u = sym c.is_usable.ensures ∙ c.if-is_usable.true in
    let f = few-records t u in
    let l = lines-le t u in
    let n = c.lines_len.ensures in
    search rules

pub returns-then-out-lines_len : goal.returns-then-out-lines_len
returns-then-out-lines_len c =
    let a = c.args in
    let t = table_of a.table.now a.count in
    let u = sym c.is_usable.ensures ∙ c.if-is_usable.true in
    writer-laws.short (printed t) a.out.now (omega (arith, printed-size t, c.lines_len.ensures, c.if-out-lines_len.true)) ∙ print-usable t a.out.now u

pub lay_listing-requires : goal.lay_listing-requires
lay_listing-requires c =
    let a = c.args in
    let t = table_of a.table.now a.count in
    let u = sym c.is_usable.ensures ∙ c.if-is_usable.true in
    let s = printed-size t in
    (u, elim c.else-out-count.branch [ else-out-count-via-then-out-count+else-out-lines_len w ↦ omega arith | else-out-count-via-else-out-count w ↦ omega (arith, lines-le t u) ])

pub returns-then-is_usable : goal.returns-then-is_usable
returns-then-is_usable c =
    let a = c.args in
    let t = table_of a.table.now a.count in
    let u = sym c.is_usable.ensures ∙ c.if-is_usable.true in
    let s = printed-size t in
    writer-laws.whole c.lay_listing.ensures (elim c.else-out-count.branch [ else-out-count-via-then-out-count+else-out-lines_len w ↦ omega arith | else-out-count-via-else-out-count w ↦ omega (arith, lines-le t u) ])
    ∙ print-usable t a.out.now u

pub returns : goal.returns
returns c =
    let a = c.args in
    print-unusable (table_of a.table.now a.count) a.out.now (sym c.is_usable.ensures ∙ c.if-is_usable.false)
