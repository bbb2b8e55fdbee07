-- By the contract of the wire's `keep_alive_meters` the answer and the output are those of `write_of`, of which `command-writes` says what is
-- promised.
use mathlib.Core.Path.{sym, subst}
use Rattle.wing_wire.specs.Meter.{keep_alives}
use Rattle.wing_wire.specs.Write.{WriteEffect}
use Rattle.promises.specs.Wire.{CommandCall}
use Rattle.promises.proofs.Writers.{command-writes}
use Rattle.promises.proofs.wire.keep_alive_meters.Goals as goal

pub returns : goal.returns
returns c =
    let bytes = keep_alives c.args.port c.args.last_id in
    let out = c.args.out.now in
    subst (λ (x : WriteEffect). CommandCall bytes out x.answer x.out) (sym c.keep_alive_meters.ensures) (command-writes bytes out)
