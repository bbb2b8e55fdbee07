-- Each return is the branch of `record_answer` with that test, and the contracts of `row` and `read_record` give the record of the number (`row_of`).
use Prim.Native.Nat.{ℕ}
use mathlib.Core.Path.{sym, ◌∙◌, ap}
use mathlib.Core.List.{List}
use native.Mathlib.Omega.{arith}
use borrow.Author.Tests.{lt-ltb, le-ltb}
use Rattle.wing_mirror.specs.Record.{entry_in, full}
use Rattle.wing_mirror.specs.Table.{table}
use Rattle.wing_mirror.specs.Query.{read_of, record_answer}
use Rattle.wing_mirror.proofs.Records.Usables.{room}
use Rattle.wing_mirror.proofs.Records.Said.{row_of}
use Rattle.wing_mirror.proofs.query.record.Goals as goal
use Rattle.std.specs.Prelude.{Ok}

pub row-requires : goal.row-requires
row-requires c =
    let a = c.args in
    omega (arith, room full (table a.table.now a.count) (sym c.is_usable.ensures ∙ c.if-is_usable.true))

pub returns-then-number-count : goal.returns-then-number-count
unfolding record_answer
returns-then-number-count c =
    let a = c.args in
    let below = c.if-number-count.true in
    rw (sym c.is_usable.ensures ∙ c.if-is_usable.true, lt-ltb _ _ below) (ap Ok c.read_record.ensures ∙ ap (λ (r : List ℕ). Ok (read_of (entry_in r))) (c.row.ensures ∙ sym (row_of 264 a.count a.number a.table.now below)))

pub returns-then-is_usable : goal.returns-then-is_usable
unfolding record_answer
returns-then-is_usable c = simp (← c.is_usable.ensures, c.if-is_usable.true, le-ltb _ _ c.if-number-count.false)

pub returns : goal.returns
unfolding record_answer
returns c = simp (← c.is_usable.ensures, c.if-is_usable.false)
