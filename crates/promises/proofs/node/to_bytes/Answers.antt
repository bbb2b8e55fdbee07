-- By the contract of the writer the answer and the output are those of `body_of_fields`, of which `writer-call` says what is promised; that the fields are in
-- their widths is told where one of them is read.
use mathlib.Core.Path.{sym, subst}
use native.Mathlib.Omega.{arith}
use Rattle.wing_node.specs.Writer.{BodyEffect, lent}
use Rattle.wing_node.specs.BothWays.{InWidth}
use Rattle.promises.specs.Writer.{WriterCall}
use Rattle.promises.proofs.Bodies.{writer-call}
use Rattle.promises.proofs.node.to_bytes.Goals as goal

pub returns : goal.returns
returns c =
    let args = c.args in
    let l = lent args.name.now args.long_name.now args.items.now in
    let t = c.struct_told-1.given in
    let w : InWidth args.d =
    record {
      parent = t.0.1;
      id = t.1.0.1;
      index = omega (arith, t.1.1.0);
      min_float = omega (arith, t.1.1.1.1.1.1.0);
      max_float = omega (arith, t.1.1.1.1.1.1.1.0);
      min_int = t.1.1.1.1.1.1.1.1.0.1;
      max_int = t.1.1.1.1.1.1.1.1.1.0.1;
      steps = t.1.1.1.1.1.1.1.1.1.1.0.1;
      count = omega (arith, t.1.1.1.1.1.1.1.1.1.1.1.0);
      max_len = omega (arith, t.1.1.1.1.1.1.1.1.1.1.1.1);
    } in
    subst (λ (x : BodyEffect). WriterCall args.d l args.out.now x.answer x.out) (sym c.to_bytes.ensures) (writer-call args.d l args.out.now w)
