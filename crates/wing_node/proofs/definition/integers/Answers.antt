-- `details_at` opened is two 4-byte fields one after the other, which the contract of `read_32` gives, and `cast_signed` gives their signs.
use mathlib.Core.Path.{◌≡◌, ◌∙◌, refl}
use mathlib.Core.List.{[], ◌∷◌}
use mir.Syntax.{w32}
use mir.Val.{to_z, of_z}
use Rattle.wing_node.specs.Cursor.{number, reads, after}
use Rattle.wing_node.specs.Definition.{details_at, times}
use borrow.Author.Rules.{rules}
use Rattle.wing_node.proofs.Refusals.{handed-on}
use Rattle.wing_node.proofs.Numerals.Signs.{reads as read}
use Rattle.wing_node.proofs.Bodies.Fails.{refused-by, field-read, field-next, field-fault, stop, on}
use Rattle.wing_node.proofs.definition.integers.Goals as goal

pub returns-in_err-min : goal.returns-in_err-min
unfolding details_at reads after times
returns-in_err-min c = handed-on _ _ c.from_residual.ensures.1 ∙ refused-by _ _ _ (stop (number 4) (number 4 ∷ []) _ _ _ (field-fault _ _ c.in_err-min.ensures))

pub returns-in_err-max : goal.returns-in_err-max
unfolding details_at reads after times
returns-in_err-max c =
    handed-on _ _ c.from_residual-in_err-max.ensures.1 ∙
    refused-by _ _ _ (on (number 4) (number 4 ∷ []) _ _ _ _ (field-next _ _ c.in_ok-min.ensures) (stop (number 4) [] _ _ _ (field-fault _ _ c.in_err-max.ensures)))

pub returns : goal.returns
unfolding details_at reads after times
returns c =
    let back : to_z w32 (of_z w32 c.cast_signed.result) ≡ c.cast_signed.result = search rules in
    let back2 : to_z w32 (of_z w32 c.cast_signed-2.result) ≡ c.cast_signed-2.result = search rules in
    rw (back, back2) (simp ((c.cast_signed.ensures ∙ read w32 refl _), (c.cast_signed-2.ensures ∙ read w32 refl _), field-read _ _ c.in_ok-min.ensures, field-read _ _ c.in_ok-max.ensures))
