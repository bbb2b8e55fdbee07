-- By the contract of the wire's `set_string` the answer and the output are those of `set_string`, of which `string-call` says what is promised.
use mathlib.Core.Path.{sym, subst}
use mir.Facts.{to_z-of_z}
use Rattle.wing_node.specs.Value.{string}
use Rattle.wing_wire.specs.Write.{WriteEffect}
use Rattle.promises.specs.Wire.{string_lines, SetOrder}
use Rattle.promises.proofs.Writers.{string-call}
use Rattle.promises.proofs.wire.set_string.Goals as goal

pub returns : goal.returns
returns c =
    let s = c.args.value.now in
    let out = c.args.out.now in
    subst (λ (x : WriteEffect). SetOrder (string_lines c.args.id s out) c.args.id (string s) out x.answer x.out)
    (sym (rw (to_z-of_z c.ranges.id) at c.set_string.ensures)) (string-call c.args.id s out c.ranges.id.sfits)
