-- By the contract of `write_anew` the answer and the output are those of `anew_of`, of which `anew_call` says what is promised.
use mathlib.Core.Path.{sym, subst}
use native.Mathlib.Omega.{arith}
use Rattle.wing_node.specs.Writer.{BodyEffect}
use Rattle.promises.specs.Writer.{AnewCall}
use Rattle.promises.proofs.Bodies.{anew_call}
use Rattle.promises.proofs.node.write_anew.Goals as goal

pub returns : goal.returns
returns c =
    let args = c.args in
    subst (λ (x : BodyEffect). AnewCall args.body.now args.out.now x.answer x.out) (sym c.write_anew.ensures)
    (anew_call args.body.now args.out.now (λ i. omega (arith, c.type_inv.body i)))
