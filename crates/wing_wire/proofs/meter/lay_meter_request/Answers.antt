-- `meter_request` opened is the head, the items and three bytes, whose lays one after the other the law `then` joins.
use Rattle.wing_wire.specs.Meter.{meter_request}
use Rattle.wing_wire.proofs.Writing.Lays.{then}
use Rattle.wing_wire.proofs.meter.lay_meter_request.Goals as goal

pub returns : goal.returns
unfolding meter_request
returns c =
    then c.lay_request_head-at.ensures.laid (then c.lay_meters-at.ensures.laid (then c.lay-at.ensures (then c.lay-at-2.ensures c.lay.ensures)))
