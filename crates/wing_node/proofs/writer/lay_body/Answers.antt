-- The header, what the type adds and the items, each laid where the one before it ends, are the body (`body-laid`).
use mathlib.Core.Path.{◌≡◌, ◌∙◌, ap}
use mathlib.Core.List.{[], map}
use Prim.Native.Nat.{◌≤◌}
use native.Mathlib.Omega.{arith}
use lib.ListN.{length}
use lib.Seq.{sets}
use Rattle.wing_node.specs.Standing.{extent}
use Rattle.wing_node.specs.Definition.{form, added}
use Rattle.wing_node.specs.Written.{laid_by}
use Rattle.wing_node.specs.Writer.{lent, type_given, holds, body_given}
use Rattle.wing_node.proofs.Bodies.Given.{body-size, body-laid}
use Rattle.wing_node.proofs.writer.lay_body.Goals as goal

pub lay_header-at-requires : goal.lay_header-at-requires
lay_header-at-requires c =
    (omega (arith, c.requires.in_bounds), c.requires.kind_value.1, c.requires.kind_value.2)

pub lay_added-requires : goal.lay_added-requires
lay_added-requires c =
    (c.requires.kind_value.0, omega (arith, c.requires.in_bounds, c.lay_header-at.ensures.0, c.lay_header-at.auto.out))

pub overflow_add-at : goal.overflow_add-at
overflow_add-at c =
    omega (arith, c.requires.in_bounds, c.lay_header-at.ensures.0, c.added_len.ensures)

pub lay-requires : goal.lay-requires
lay-requires c =
    omega (arith, c.requires.in_bounds, c.lay_header-at.ensures.0, c.added_len.ensures, c.lay_added.auto.out, c.lay_header-at.auto.out)

pub returns : goal.returns
returns c =
    let args = c.args in
    let l = lent args.name.now args.long_name.now args.items.now in
    let same = c.requires.kind_value.0 in
    let x₂ = c.lay_added.new.out in
    let x₁ = c.lay_header-at.new.out in
    let m = c.lay_header-at.result in
    let size : c.added_len.result ≡ extent (map form (added (type_given args.d))) [] = c.added_len.ensures ∙ ap (λ t. extent (map form (added t)) []) same in
    let rest : x₂ ≡ sets x₁ m (laid_by (holds args.d (lent [] [] [])) (added (type_given args.d))) = c.lay_added.ensures ∙ ap (λ t. sets x₁ m (laid_by (holds args.d (lent [] [] [])) (added t))) same in
    let room : length (body_given args.d l) ≤ length args.out.now = omega (arith, body-size args.d l args.kind c.added_len.result same c.added_len.ensures, c.added_len.ensures, c.requires.in_bounds) in
    body-laid args.d l args.out.now x₁ x₂ c.lay.new.out m c.added_len.result room c.lay_header-at.ensures rest size c.lay.ensures.1
