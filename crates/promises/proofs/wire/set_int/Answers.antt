-- By the contract of the wire's `set_int` the answer and the output are those of `write_of`, of which `order-call` says what is promised.
use mathlib.Core.Path.{sym, subst}
use mir.Facts.{to_z-of_z}
use Rattle.wing_node.specs.Value.{integer}
use Rattle.wing_wire.specs.Write.{WriteEffect}
use Rattle.wing_wire.specs.Command.{set_bytes}
use Rattle.promises.specs.Wire.{command_lines, SetOrder}
use Rattle.promises.proofs.Writers.{order-call}
use Rattle.promises.proofs.wire.set_int.Goals as goal

pub returns : goal.returns
returns c =
    let v = integer c.args.value in
    let out = c.args.out.now in
    subst (λ (x : WriteEffect). SetOrder (command_lines (set_bytes c.args.id v) out) c.args.id v out x.answer x.out)
    (sym (rw (to_z-of_z c.ranges.id, to_z-of_z c.ranges.value) at c.set_int.ensures)) (order-call c.args.id v out c.ranges.id.sfits c.ranges.value.sfits)
