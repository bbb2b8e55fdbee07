-- The invariant: the bytes with the i digits left put into them are the outcome for all k digits; a turn puts the last of those (`placed-turn`).
use mathlib.Core.Path.{◌≡◌, refl, ◌∙◌, sym, ap}
use native.Mathlib.Omega.{arith}
use borrow.Author.Rules.{rules}
use Rattle.wing_node.specs.Bytes.{placed}
use Rattle.wing_node.specs.Decimal.{last_digits}
use Rattle.wing_node.proofs.Arrays.{placed-turn, placed_end}
use Rattle.wing_node.proofs.value.put_digits.Goals as goal

pub loop-i-init : goal.loop-i-init
loop-i-init c = (omega arith, refl, refl)

pub loop-i-preserved : goal.loop-i-preserved
loop-i-preserved c =
    (search rules, search rules, placed-turn c.loop-i.out c.args.from c.loop-i.i c.loop-i.rest (search rules) (search rules) ∙ c.loop-i.invariant.2)

pub returns : goal.returns
returns c =
    let from = c.args.from in
    let e : c.loop-i.i ≡ 0 = omega arith in
    sym (placed_end c.loop-i.out from c.loop-i.rest) ∙ ap (λ i. placed c.loop-i.out from (last_digits i c.loop-i.rest)) (sym e) ∙ c.loop-i.invariant.2
