-- The stores of the kind, of the length and of the bits by `put_number`, each laid at its place (`field-sets`), are those of `laid_from` in
-- order.
use Rattle.wing_node.specs.Digits.{digits_in}
use Prim.Native.Nat.{ℕ}
use mathlib.Core.Path.{◌≡◌, ◌∙◌, ap}
use mathlib.Core.List.{List}
use native.Mathlib.Omega.{arith}
use lib.ListN.{set, length-set}
use lib.Seq.{sets}
use Rattle.wing_node.specs.Field.{bytes_of}
use Rattle.wing_node.proofs.Numerals.Placed.{field-sets}
use Rattle.wing_mirror.proofs.record.lay_number.Goals as goal

pub returns : goal.returns
unfolding digits_in
returns c =
    let o = c.args.out.now in
    let k = c.args.kind in
    let e : c.put_number.new.out ≡ sets (set o 4 k) 6 (bytes_of 2 4) = field-sets 2 4 6 (set o 4 k) _ _ (omega arith) (omega (arith, length-set o 4 k)) c.put_number.ensures in
    field-sets 4 c.args.bits 8 c.put_number.new.out _ _ (omega arith) (omega (arith, c.put_number.auto.out, length-set o 4 k)) c.put_number-2.ensures ∙ ap (λ (l : List ℕ). sets l 8 (bytes_of 4 c.args.bits)) e
