-- By the contract of the wire's `request_node_data` the answer and the output are those of `write_of`, of which `command-writes` says what is
-- promised.
use mathlib.Core.Path.{sym, subst}
use mir.Facts.{to_z-of_z}
use Rattle.wing_wire.specs.Command.{request_bytes}
use Rattle.wing_wire.specs.Write.{WriteEffect}
use Rattle.promises.specs.Wire.{CommandCall}
use Rattle.promises.proofs.Writers.{command-writes}
use Rattle.promises.proofs.wire.request_node_data.Goals as goal

pub returns : goal.returns
returns c =
    let bytes = request_bytes 0xdc c.args.id in
    let out = c.args.out.now in
    subst (λ (x : WriteEffect). CommandCall bytes out x.answer x.out) (sym (rw (to_z-of_z c.ranges.id) at c.request_node_data.ensures)) (command-writes bytes out)
