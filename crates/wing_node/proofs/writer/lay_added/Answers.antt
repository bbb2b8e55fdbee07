-- Each arm lays the fields that its types add, one where the other ends.
use mathlib.Core.Path.{◌≡◌, refl, ◌∙◌, ap}
use mathlib.Core.List.{[], ◌∷◌, ◌++◌, map}
use Prim.Native.Nat.{◌+◌, ◌≤◌}
use mir.Syntax.{w32}
use mir.Val.{to_z, of_z}
use native.Mathlib.Omega.{arith}
use lib.ListN.{length}
use lib.Seq.{sets}
use Rattle.wing_node.specs.Signed.{unsigned}
use Rattle.wing_node.specs.Field.{bytes_of}
use Rattle.wing_node.specs.Cursor.{size}
use Rattle.wing_node.specs.Laid.{laid, laid_all}
use Rattle.wing_node.specs.Standing.{extent}
use Rattle.wing_node.specs.Definition.{form, added}
use Rattle.wing_node.specs.Written.{laid_by}
use Rattle.wing_node.specs.Writer.{lent, type_given, holds}
use Rattle.wing_node.specs.declared.node_type.NodeType.TheVariants.{Integer}
use Rattle.wing_node.proofs.Arms.{by_arm}
use Rattle.wing_node.proofs.Numerals.Placed.{field-sets}
use Rattle.wing_node.proofs.Bodies.Lays.{one-laid, limits-steps, limits-alone}
use borrow.Author.Rules.{rules}
use Rattle.wing_node.proofs.Numerals.Signs.{writes}
use Rattle.wing_node.proofs.writer.lay_added.Goals as goal

pub lay_limits-requires : goal.lay_limits-requires
unfolding extent size
lay_limits-requires c =
    let args = c.args in
    by_arm (λ t. args.at + extent (map form (added t)) [] ≤ length args.out.now → args.at + 8 ≤ length args.out.now) (1 ∷ 2 ∷ []) args.kind c.in-LinearFloat.in-LinearFloat-own.keys1
    (λ h. omega arith, (λ h. omega arith, tt)) c.requires.1

pub lay_limits-requires-in-Integer : goal.lay_limits-requires-in-Integer
unfolding extent size
lay_limits-requires-in-Integer c =
    omega (arith, rw c.in-Integer.is at c.requires.1)

pub returns-in-LinearFloat : goal.returns-in-LinearFloat
unfolding laid_all laid extent size
returns-in-LinearFloat c =
    let args = c.args in
    let d = args.d in
    let x₀ = args.out.now in
    let x₁ = c.lay_limits.new.out in
    let x₂ = c.put_number.new.out in
    let back : to_z w32 (of_z w32 d.steps) ≡ d.steps = search rules in
    let room : args.at + 12 ≤ length x₀ = by_arm (λ t. args.at + extent (map form (added t)) [] ≤ length x₀ → args.at + 12 ≤ length x₀) (1 ∷ 2 ∷ []) args.kind c.in-LinearFloat.in-LinearFloat-own.keys1 (λ h. h, (λ h. h, tt)) c.requires.1 in
    let e₂ : x₂ ≡ sets x₁ (args.at + 8) (bytes_of 4 (unsigned 31 d.steps)) =
    field-sets 4 _ _ x₁ x₂ _ (omega arith) (omega (arith, c.lay_limits.auto.out)) c.put_number.ensures ∙ ap (λ x. sets x₁ (args.at + 8) (bytes_of 4 (unsigned 31 x))) back in
    let all = limits-steps d.min_float d.max_float (unsigned 31 d.steps) args.at x₀ x₁ x₂ c.lay_limits.ensures e₂ in
    by_arm (λ t. t ≡ type_given d → x₂ ≡ sets x₀ args.at (laid_by (holds d (lent [] [] [])) (added t))) (1 ∷ 2 ∷ []) args.kind c.in-LinearFloat.in-LinearFloat-own.keys1
    (λ e. rw (← e) all, (λ e. rw (← e) all, tt)) c.requires.0

pub returns-in-Integer : goal.returns-in-Integer
unfolding laid_all laid
returns-in-Integer c =
    let args = c.args in
    let d = args.d in
    let x₀ = args.out.now in
    let x₁ = c.lay_limits-in-Integer.new.out in
    let back : to_z w32 (of_z w32 d.min_int) ≡ d.min_int = search rules in
    let back2 : to_z w32 (of_z w32 d.max_int) ≡ d.max_int = search rules in
    let min : c.cast_unsigned.result ≡ unsigned 31 d.min_int = c.cast_unsigned.ensures ∙ ap (of_z w32) back ∙ writes w32 refl d.min_int in
    let max : c.cast_unsigned-in-Integer.result ≡ unsigned 31 d.max_int = c.cast_unsigned-in-Integer.ensures ∙ ap (of_z w32) back2 ∙ writes w32 refl d.max_int in
    let both : x₁ ≡ sets x₀ args.at (bytes_of 4 (unsigned 31 d.min_int) ++ bytes_of 4 (unsigned 31 d.max_int)) =
    c.lay_limits-in-Integer.ensures ∙ (λ j. sets x₀ args.at (bytes_of 4 (min j) ++ bytes_of 4 (max j))) in
    let e : Integer ≡ type_given d = rw c.in-Integer.is at c.requires.0 in
    rw (c.in-Integer.is, ← e) (limits-alone (unsigned 31 d.min_int) (unsigned 31 d.max_int) args.at x₀ x₁ both)

pub returns-in-StringEnum : goal.returns-in-StringEnum
unfolding laid_all laid extent size
returns-in-StringEnum c =
    let args = c.args in
    let d = args.d in
    let x₀ = args.out.now in
    let x₁ = c.put_number-in-StringEnum.new.out in
    let room : args.at + 2 ≤ length x₀ = by_arm (λ t. args.at + extent (map form (added t)) [] ≤ length x₀ → args.at + 2 ≤ length x₀) (5 ∷ 6 ∷ []) args.kind c.in-StringEnum.in-StringEnum-own.keys3 (λ h. h, (λ h. h, tt)) c.requires.1 in
    let all = one-laid x₀ x₁ args.at (bytes_of 2 d.count) (field-sets 2 _ _ x₀ x₁ _ (omega arith) (omega arith) c.put_number-in-StringEnum.ensures) in
    by_arm (λ t. x₁ ≡ sets x₀ args.at (laid_by (holds d (lent [] [] [])) (added t))) (5 ∷ 6 ∷ []) args.kind c.in-StringEnum.in-StringEnum-own.keys3 (all, (all, tt))

pub returns-in-String : goal.returns-in-String
unfolding laid_all laid extent size
returns-in-String c =
    let args = c.args in
    let x₀ = args.out.now in
    let x₁ = c.put_number-in-String.new.out in
    let room = rw c.in-String.is at c.requires.1 in
    rw c.in-String.is (one-laid x₀ x₁ args.at (bytes_of 2 args.d.max_len) (field-sets 2 _ _ x₀ x₁ _ (omega arith) (omega (arith, room)) c.put_number-in-String.ensures))

pub returns-in-Node : goal.returns-in-Node
unfolding laid_all
returns-in-Node c =
    let args = c.args in
    let x₀ = args.out.now in
    by_arm (λ t. x₀ ≡ sets x₀ args.at (laid_by (holds args.d (lent [] [] [])) (added t))) (0 ∷ 3 ∷ []) args.kind c.in-Node.in-Node-own.keys5 (refl, (refl, tt))
