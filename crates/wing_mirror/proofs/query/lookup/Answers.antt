-- Both returns are the branches of `lookup_answer` by what `is_usable` tells, and the contracts of `rank` and `number_of` give the number.
use Prim.Native.Nat.{ℕ}
use mathlib.Core.Bool.{true}
use mathlib.Core.Path.{◌≡◌, sym, ◌∙◌, ap}
use mir.Facts.{to_z-of_z}
use Rattle.wing_mirror.specs.Rows.{records, number_of}
use Rattle.wing_mirror.specs.Entry.{rank_of}
use Rattle.wing_mirror.specs.Record.{key_of, full}
use Rattle.wing_mirror.specs.Table.{table, usable, lookup_of}
use Rattle.wing_mirror.specs.Query.{answer_of, lookup_answer}
use Rattle.wing_mirror.proofs.Records.Ready.{in_order_lem}
use Rattle.wing_mirror.proofs.query.lookup.Goals as goal

pub number_of-requires : goal.number_of-requires
number_of-requires c =
    let t = table c.args.table.now c.args.count in
    let u : usable full t ≡ true = sym c.is_usable.ensures ∙ c.if-is_usable.true in
    in_order_lem t u

pub returns-then-is_usable : goal.returns-then-is_usable
unfolding lookup_answer lookup_of
returns-then-is_usable c = simp (← c.is_usable.ensures, c.if-is_usable.true) (c.number_of.ensures ∙ ap (λ (k : ℕ). answer_of (number_of key_of k (records 264 c.args.count c.args.table.now))) (c.rank.ensures ∙ ap rank_of (to_z-of_z c.ranges.id)))

pub returns : goal.returns
unfolding lookup_answer
returns c = simp (← c.is_usable.ensures, c.if-is_usable.false)
