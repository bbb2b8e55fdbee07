-- The test is `usable`, by the contract of `is_usable`.
use mir.Syntax.{w32}
use mir.Val.{to_z, of_z}
use mathlib.Core.Path.{refl, sym, ◌∙◌, ◌≡◌}
use borrow.Author.Rules.{rules}
use Rattle.wing_c.proofs.mirror.wing_table_check.Goals as goal

pub returns-then-is_usable : goal.returns-then-is_usable
returns-then-is_usable c = rw (sym c.is_usable.ensures ∙ c.if-is_usable.true) refl

pub returns : goal.returns
returns c =
    let back : to_z w32 (of_z w32 c.minus.result) ≡ c.minus.result = search rules in
    rw (back, sym c.is_usable.ensures ∙ c.if-is_usable.false) c.minus.ensures
