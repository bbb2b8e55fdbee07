-- By the contract of the wire's `set_float` the answer and the output are those of `write_of`, of which `order-call` says what is promised.
use mathlib.Core.Path.{sym, subst}
use mir.Facts.{to_z-of_z}
use Rattle.wing_node.specs.Value.{float}
use Rattle.wing_wire.specs.Write.{WriteEffect}
use Rattle.wing_wire.specs.Command.{set_bytes}
use Rattle.promises.specs.Wire.{command_lines, SetOrder}
use Rattle.promises.proofs.Writers.{order-call}
use Rattle.promises.proofs.wire.set_float.Goals as goal

pub returns : goal.returns
returns c =
    let v = float c.args.bits in
    let out = c.args.out.now in
    subst (λ (x : WriteEffect). SetOrder (command_lines (set_bytes c.args.id v) out) c.args.id v out x.answer x.out)
    (sym (rw (to_z-of_z c.ranges.id) at c.set_float.ensures)) (order-call c.args.id v out c.ranges.id.sfits c.ranges.bits.fits)
