-- By the contract of the wire's `format_id` the answer and the output are those of `write_of`, of which `command-writes` says what is promised.
use mathlib.Core.Path.{sym, subst}
use mir.Facts.{to_z-of_z}
use Rattle.wing_wire.specs.Command.{id_bytes, suffix_bytes}
use Rattle.wing_wire.specs.Write.{WriteEffect}
use Rattle.promises.specs.Wire.{CommandCall}
use Rattle.promises.proofs.Writers.{command-writes}
use Rattle.promises.proofs.wire.format_id.Goals as goal

pub returns : goal.returns
returns c =
    let bytes = id_bytes c.args.prefix c.args.id (suffix_bytes c.args.suffix) in
    let out = c.args.out.now in
    subst (λ (x : WriteEffect). CommandCall bytes out x.answer x.out) (sym (rw (to_z-of_z c.ranges.id) at c.format_id.ensures)) (command-writes bytes out)
