-- By the contract of the wire's `request_meter` the answer and the output are those of `request_meter`, of which `meters-write` says what is
-- promised.
use mathlib.Core.Path.{sym, subst}
use Rattle.wing_wire.specs.Meter.{RequestEffect}
use Rattle.promises.specs.Wire.{MeterCall}
use Rattle.promises.proofs.Writers.{meters-write}
use Rattle.promises.proofs.wire.request_meter.Goals as goal

pub returns : goal.returns
returns c =
    let out = c.args.out.now in
    subst (λ (x : RequestEffect). MeterCall c.args.port c.args.last_id c.args.meters c.args.count out x.answer x.out)
    (sym c.request_meter.ensures) (meters-write c.args.port c.args.last_id c.args.meters c.args.count out)
