-- Each arm is the line of `string_in` with that variant, by the contracts of `decimal` and `first`.
use mathlib.Core.Path.{◌≡◌, ◌∙◌, ap}
use borrow.Author.Rules.{rules}
use mir.Syntax.{w32}
use mir.Val.{to_z, of_z}
use Rattle.wing_node.specs.Decimal.{decimal}
use Rattle.wing_node.specs.Value.{node_value, string_in, answer_of, some}
use Rattle.wing_node.proofs.value.get_string.Goals as goal

pub returns-in-Integer : goal.returns-in-Integer
unfolding node_value string_in
returns-in-Integer c =
    let x = c.in-Integer.x in
    let back : to_z w32 (of_z w32 x) ≡ x = search rules in
    c.decimal.ensures ∙ ap (λ y. answer_of (some (decimal y))) back ∙ simp c.in-Integer.is

pub returns-in-Float : goal.returns-in-Float
unfolding node_value string_in answer_of
returns-in-Float c = simp c.in-Float.is

pub returns-in-String : goal.returns-in-String
unfolding node_value string_in
returns-in-String c = c.first.ensures ∙ simp c.in-String.is
