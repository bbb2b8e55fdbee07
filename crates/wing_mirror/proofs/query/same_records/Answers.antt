-- With equal counts the bytes of all records are compared at once, which compares record by record (`rows-bytes`); else `same_tables` is false.
use borrow.Author.Tests.{eq-eqb, ne_eqb}
use Prim.Native.Nat.{ℕ, ◌*◌}
use mathlib.Core.Path.{◌∙◌, ap}
use native.Mathlib.Omega.{arith}
use lib.ListN.{take}
use Rattle.wing_mirror.specs.Rows.{records}
use Rattle.wing_mirror.specs.Query.{same_rows, same_tables}
use Rattle.wing_mirror.proofs.Records.Equals.{bytes-equal, rows-bytes}
use Rattle.wing_mirror.proofs.query.same_records.Goals as goal

pub returns-then-count_a-count_b : goal.returns-then-count_a-count_b
unfolding same_tables
returns-then-count_a-count_b c =
    let a = c.args in
    let e = c.if-count_a-count_b.true in
    let m = 264 * a.count_a in
    rw (eq-eqb a.count_a a.count_b e) (c.eq.ensures ∙ bytes-equal (take m a.a.now) (take m a.b.now) ∙ rows-bytes 264 a.count_a a.a.now a.b.now (omega arith) (omega arith) ∙ ap (λ (n : ℕ). same_rows (records 264 a.count_a a.a.now) (records 264 n a.b.now)) e)

pub returns-else-count_a-count_b : goal.returns-else-count_a-count_b
unfolding same_tables
returns-else-count_a-count_b c =
    rw (ne_eqb _ _ c.if-count_a-count_b.false)
