-- `put_decimal` puts the decimal at the front of zeros that have room for it (`decimal-few`, `put-zeros`).
use mathlib.Core.Path.{◌∙◌}
use native.Mathlib.Omega.{arith}
use mir.Facts.{to_z-of_z}
use Rattle.wing_node.specs.Decimal.{decimal}
use Rattle.wing_node.proofs.Numerals.Answers.{answered, decimal-few, put-zeros}
use Rattle.wing_node.proofs.value.decimal.Goals as goal

pub overflow_cast-result : goal.overflow_cast-result
overflow_cast-result c =
    let e = rw (to_z-of_z c.ranges.x) at c.put_decimal-k.ensures.0 in
    record { fits = omega (arith, decimal-few c.args.x c.ranges.x) }

pub returns : goal.returns
returns c =
    let x = c.args.x in
    let e = rw (to_z-of_z c.ranges.x) at c.put_decimal-k.ensures.0 in
    let o = rw (to_z-of_z c.ranges.x) at c.put_decimal-k.ensures.1 in
    answered (decimal x) c.put_decimal-k.new.out c.put_decimal-k.result e (o ∙ put-zeros (decimal x) 256 (omega (arith, decimal-few x c.ranges.x)))
