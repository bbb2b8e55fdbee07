-- The invariant: the total and the length of the lines left are the length of all; a turn lays one into the scratch buffer, which has room for any
-- (`row-le`), to count it.
use mathlib.Core.Path.{ap}
use native.Mathlib.Omega.{arith}
use borrow.Author.Rules.{rules}
use lib.ListN.{length}
use Rattle.wing_mirror.specs.Table.{table as table_of}
use Rattle.wing_mirror.proofs.Calls.Sends.{few-records, row-formed}
use Rattle.wing_listing.proofs.Printing.Lines.{left-all, left_less, left-none, row_in, row-le}
use Rattle.wing_listing.proofs.print.lines_len.Goals as goal

pub loop-number-init : goal.loop-number-init
loop-number-init c =
    let a = c.args in
    let e = ap length (left-all a.count a.table.now) in
    (search rules, omega arith, omega arith)

pub print_record-total-requires : goal.print_record-total-requires
print_record-total-requires c =
    let t = table_of c.args.table.now c.args.count in
    let i = c.loop-number.number in
    let h = c.loop-number-test.true in
    (row_in t c.requires i h, row-formed t c.requires i h, omega (arith, row-le t c.requires i h))

pub overflow_add-total : goal.overflow_add-total
overflow_add-total c =
    let t = table_of c.args.table.now c.args.count in
    let m = row-le t c.requires c.loop-number.number c.loop-number-test.true in
    let n = c.print_record-total.ensures.next in
    let f = few-records t c.requires in
    search rules

pub loop-number-preserved : goal.loop-number-preserved
loop-number-preserved c =
    let t = table_of c.args.table.now c.args.count in
    let i = c.loop-number.number in
    let h = c.loop-number-test.true in
    let n = c.print_record-total.ensures.next in
    let m = row-le t c.requires i h in
    let l = left_less c.args.count i c.args.table.now h in
    (search rules, omega arith, omega arith)

pub returns : goal.returns
returns c =
    let a = c.args in
    let z = ap length (left-none a.count c.loop-number.number a.table.now c.loop-number-test.false) in
    omega arith
