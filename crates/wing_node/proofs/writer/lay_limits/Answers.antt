-- Each limit is laid at its place (`field-sets`), the second where the first ends (`lays-then`).
use mathlib.Core.Path.{◌≡◌}
use Prim.Native.Nat.{◌+◌}
use native.Mathlib.Omega.{arith}
use lib.Seq.{sets}
use Rattle.wing_node.specs.Field.{bytes_of}
use Rattle.wing_node.proofs.Numerals.Numbers.{length-digits_in}
use Rattle.wing_node.proofs.Numerals.Placed.{field-sets}
use Rattle.wing_node.proofs.Bodies.Lays.{lays-then}
use Rattle.wing_node.proofs.writer.lay_limits.Goals as goal

pub returns : goal.returns
returns c =
    let args = c.args in
    let x₀ = args.out.now in
    let x₁ = c.put_number.new.out in
    let x₂ = c.put_number-2.new.out in
    let e₁ : x₁ ≡ sets x₀ args.at (bytes_of 4 args.min) = field-sets 4 _ _ x₀ x₁ _ (omega arith) (omega arith) c.put_number.ensures in
    let e₂ : x₂ ≡ sets x₁ (args.at + 4) (bytes_of 4 args.max) = field-sets 4 _ _ x₁ x₂ _ (omega arith) (omega (arith, c.put_number.auto.out)) c.put_number-2.ensures in
    lays-then x₀ x₁ x₂ args.at (args.at + 4) (bytes_of 4 args.min) (bytes_of 4 args.max) e₁ (omega (arith, length-digits_in 256 4 args.min)) e₂
