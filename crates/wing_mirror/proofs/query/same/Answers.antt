-- Each return is the branch of `same_answer` with that test, by the contracts of `is_usable` and `same_records`.
use mathlib.Core.Path.{sym, ◌∙◌}
use Rattle.wing_mirror.specs.Record.{full}
use Rattle.wing_mirror.specs.Table.{table}
use Rattle.wing_mirror.proofs.Records.Usables.{room}
use Rattle.wing_mirror.proofs.query.same.Goals as goal

pub same_records-requires : goal.same_records-requires
same_records-requires c =
    let a = c.args in
    (room full (table a.a.now a.count_a) (sym c.is_usable.ensures ∙ c.if-is_usable.true), room full (table a.b.now a.count_b) (sym c.is_usable-then-is_usable.ensures ∙ c.if-is_usable-2.true))
