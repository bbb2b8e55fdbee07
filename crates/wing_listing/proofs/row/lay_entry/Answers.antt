-- The parts of the line one after the other (`entry-laid`), by the contracts of `put_decimal`, `letter` and `lay_value`; the room for all is what `line-long` says.
use mathlib.Core.Path.{◌≡◌, ◌∙◌}
use native.Mathlib.Omega.{arith}
use lib.ListN.{length, length-set}
use Rattle.wing_listing.proofs.Printing.Values.{line-long, entry-laid}
use borrow.Author.Rules.{rules}
use Rattle.wing_listing.proofs.row.lay_entry.Goals as goal

pub overflow_add-to : goal.overflow_add-to
overflow_add-to c =
    let l = line-long c.args.rec.now c.told-rec c.number_at.result c.put_decimal.result c.args.at c.args.out.now c.put_decimal.new.out c.number_at.ensures c.put_decimal.ensures in
    search rules

pub bounds-out-to : goal.bounds-out-to
bounds-out-to c =
    let l = line-long c.args.rec.now c.told-rec c.number_at.result c.put_decimal.result c.args.at c.args.out.now c.put_decimal.new.out c.number_at.ensures c.put_decimal.ensures in
    search rules

pub overflow_add-out : goal.overflow_add-out
overflow_add-out c =
    let l = line-long c.args.rec.now c.told-rec c.number_at.result c.put_decimal.result c.args.at c.args.out.now c.put_decimal.new.out c.number_at.ensures c.put_decimal.ensures in
    search rules

pub bounds-out-to-2 : goal.bounds-out-to-2
bounds-out-to-2 c =
    let l = line-long c.args.rec.now c.told-rec c.number_at.result c.put_decimal.result c.args.at c.args.out.now c.put_decimal.new.out c.number_at.ensures c.put_decimal.ensures in
    simp length-set (omega arith)

pub overflow_add-out-2 : goal.overflow_add-out-2
overflow_add-out-2 c =
    let l = line-long c.args.rec.now c.told-rec c.number_at.result c.put_decimal.result c.args.at c.args.out.now c.put_decimal.new.out c.number_at.ensures c.put_decimal.ensures in
    search rules

pub bounds-out-to-3 : goal.bounds-out-to-3
bounds-out-to-3 c =
    let l = line-long c.args.rec.now c.told-rec c.number_at.result c.put_decimal.result c.args.at c.args.out.now c.put_decimal.new.out c.number_at.ensures c.put_decimal.ensures in
    simp length-set (omega arith)

pub overflow_add-to-2 : goal.overflow_add-to-2
overflow_add-to-2 c =
    let l = line-long c.args.rec.now c.told-rec c.number_at.result c.put_decimal.result c.args.at c.args.out.now c.put_decimal.new.out c.number_at.ensures c.put_decimal.ensures in
    search rules

pub lay_value-end-requires : goal.lay_value-end-requires
lay_value-end-requires c =
    let l = line-long c.args.rec.now c.told-rec c.number_at.result c.put_decimal.result c.args.at c.args.out.now c.put_decimal.new.out c.number_at.ensures c.put_decimal.ensures in
    (c.requires.0, simp length-set (omega arith))

pub bounds-out-end : goal.bounds-out-end
bounds-out-end c =
    let l = line-long c.args.rec.now c.told-rec c.number_at.result c.put_decimal.result c.args.at c.args.out.now c.put_decimal.new.out c.number_at.ensures c.put_decimal.ensures in
    let k : length c.lay_value-end.new.out ≡ length c.args.out.now = c.lay_value-end.auto.out ∙ simp length-set c.put_decimal.auto.out in
    omega (arith, c.lay_value-end.ensures.next)

pub overflow_add-result : goal.overflow_add-result
overflow_add-result c =
    let l = line-long c.args.rec.now c.told-rec c.number_at.result c.put_decimal.result c.args.at c.args.out.now c.put_decimal.new.out c.number_at.ensures c.put_decimal.ensures in
    let e = c.lay_value-end.ensures.next in
    search rules

pub returns : goal.returns
returns c =
    entry-laid c.args.rec.now c.told-rec c.number_at.result c.letter.result c.args.at c.put_decimal.result c.lay_value-end.result c.args.out.now c.put_decimal.new.out c.lay_value-end.new.out c.number_at.ensures c.letter.ensures c.put_decimal.ensures c.requires.1 c.lay_value-end.ensures
