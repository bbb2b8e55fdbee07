-- Ids and index, the two names and the flags, each laid where the one before it ends, are the header (`header-laid`).
use mathlib.Core.Path.{◌≡◌, ◌∙◌, ap}
use mir.Syntax.{w32}
use mir.Val.{to_z, of_z}
use Prim.Native.Nat.{◌-◌, ◌≤◌}
use native.Mathlib.Omega.{arith}
use lib.ListN.{length}
use lib.Seq.{sets}
use mathlib.Core.List.{◌++◌}
use Rattle.wing_node.specs.Signed.{unsigned}
use Rattle.wing_node.specs.Field.{bytes_of}
use Rattle.wing_node.specs.Laid.{laid}
use Rattle.wing_node.specs.Writer.{flags_of}
use Rattle.wing_node.proofs.Numerals.Placed.{field-sets}
use Rattle.wing_node.proofs.Bodies.Lays.{header-laid}
use borrow.Author.Rules.{rules}
use Rattle.wing_node.proofs.writer.lay_header.Goals as goal

pub lay_string-end-requires : goal.lay_string-end-requires
unfolding laid
lay_string-end-requires c =
    (omega (arith, c.lay_ids.auto.out, c.lay_string-at.auto.out, c.lay_string-at.ensures.0), omega arith)

pub overflow_add-result : goal.overflow_add-result
unfolding laid
overflow_add-result c =
    omega (arith, c.lay_string-end.ensures.0, c.lay_string-at.ensures.0, c.requires)

pub returns : goal.returns
unfolding laid
returns c =
    let args = c.args in
    let d = args.d in
    let x₀ = args.out.now in
    let x₁ = c.lay_ids.new.out in
    let x₃ = c.lay_string-end.new.out in
    let n = c.lay_string-end.result in
    let parent : to_z w32 (of_z w32 d.parent_id) ≡ d.parent_id = search rules in
    let own : to_z w32 (of_z w32 d.id) ≡ d.id = search rules in
    let e₁ : x₁ ≡ sets x₀ 0 (bytes_of 4 (unsigned 31 d.parent_id) ++ (bytes_of 4 (unsigned 31 d.id) ++ bytes_of 2 d.index)) =
    c.lay_ids.ensures ∙ (λ j. sets x₀ 0 (bytes_of 4 (unsigned 31 (parent j)) ++ (bytes_of 4 (unsigned 31 (own j)) ++ bytes_of 2 d.index))) in
    let room : 2 ≤ length x₃ - n = omega (arith, c.lay_string-end.ensures.0, c.lay_string-at.ensures.0, c.lay_string-end.auto.out, c.lay_string-at.auto.out, c.lay_ids.auto.out, c.requires) in
    let e₄ : c.put_number.new.out ≡ sets x₃ n (bytes_of 2 (flags_of d.node_type d.unit d.read_only)) =
    field-sets 2 _ n x₃ _ _ (omega arith) room c.put_number.ensures ∙ ap (λ f. sets x₃ n (bytes_of 2 f)) c.flags_of.ensures in
    header-laid d args.name.now args.long_name.now x₀ x₁ c.lay_string-at.new.out x₃ c.put_number.new.out c.lay_string-at.result n e₁ c.lay_string-at.ensures c.lay_string-end.ensures e₄
