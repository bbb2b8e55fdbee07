-- Each return is the kind of record with that test (`integer-value`, `float_value`, `string-value`), by the contracts of the field readers.
use mathlib.Core.Path.{◌≡◌}
use native.Mathlib.Omega.{arith}
use mir.Syntax.{w32}
use mir.Val.{to_z, of_z}
use Rattle.wing_node.specs.Value.{node_value}
use Rattle.wing_mirror.proofs.Records.Said.{integer-value, float_value, string-value}
use borrow.Author.Rules.{rules}
use Rattle.wing_mirror.proofs.record.value_in.Goals as goal

pub returns-in-0 : goal.returns-in-0
unfolding node_value
returns-in-0 c =
    let x = c.number_at.result in
    let back : to_z w32 (of_z w32 x) ≡ x = search rules in
    rw back (integer-value c.args.rec.now c.told-rec x c.in-0.is c.number_at.ensures)

pub returns-in-1 : goal.returns-in-1
unfolding node_value
returns-in-1 c =
    float_value c.args.rec.now c.told-rec c.number_at-in-1.result (λ e. omega arith) c.in-1.is c.number_at-in-1.ensures

pub returns-in_default : goal.returns-in_default
unfolding node_value
returns-in_default c =
    string-value c.args.rec.now c.told-rec c.number_at-in_default.result (λ e. omega arith) (λ e. omega arith) c.number_at-in_default.ensures
