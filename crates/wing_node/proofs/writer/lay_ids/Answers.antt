-- Three fields, each laid at its place (`field-sets`), are laid one after the other (`lays-then`).
use mathlib.Core.Path.{◌≡◌, ◌∙◌, ap}
use mir.Syntax.{w32}
use mir.Val.{to_z, of_z}
use mathlib.Core.List.{◌++◌}
use native.Mathlib.Omega.{arith}
use lib.Seq.{sets}
use Rattle.wing_node.specs.Signed.{unsigned}
use Rattle.wing_node.specs.Field.{bytes_of}
use Rattle.wing_node.proofs.Numerals.Numbers.{length-digits_in}
use Rattle.wing_node.proofs.Numerals.Placed.{field-sets}
use Rattle.wing_node.proofs.Bodies.Lays.{lays-then}
use borrow.Author.Rules.{rules}
use Rattle.wing_node.proofs.writer.lay_ids.Goals as goal

pub returns : goal.returns
returns c =
    let args = c.args in
    let d = args.out.now in
    let x1 = c.put_number.new.out in
    let x2 = c.put_number-2.new.out in
    let x3 = c.put_number-3.new.out in
    let a = bytes_of 4 (unsigned 31 args.parent_id) in
    let b = bytes_of 4 (unsigned 31 args.id) in
    let parent : to_z w32 (of_z w32 args.parent_id) ≡ args.parent_id = search rules in
    let own : to_z w32 (of_z w32 args.id) ≡ args.id = search rules in
    let e1 : x1 ≡ sets d 0 a = field-sets 4 _ 0 d x1 _ (omega arith) (omega arith) c.put_number.ensures ∙ ap (λ x. sets d 0 (bytes_of 4 (unsigned 31 x))) parent in
    let e2 : x2 ≡ sets x1 4 b = field-sets 4 _ 4 x1 x2 _ (omega arith) (omega (arith, c.put_number.auto.out)) c.put_number-2.ensures ∙ ap (λ x. sets x1 4 (bytes_of 4 (unsigned 31 x))) own in
    let e3 : x3 ≡ sets x2 8 (bytes_of 2 args.index) = field-sets 2 _ 8 x2 x3 _ (omega arith) (omega (arith, c.put_number.auto.out, c.put_number-2.auto.out)) c.put_number-3.ensures in
    lays-then d x1 x3 0 4 a (b ++ bytes_of 2 args.index) e1 (omega (arith, length-digits_in 256 4 (unsigned 31 args.parent_id))) (lays-then x1 x2 x3 4 8 b (bytes_of 2 args.index) e2 (omega (arith, length-digits_in 256 4 (unsigned 31 args.id))) e3)
