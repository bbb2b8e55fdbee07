-- The contract of the wire's call, with its answer by numbers (`packet-as`).
use Rattle.wing_c.proofs.Effects.{packet-as}
use Rattle.wing_c.proofs.commands.wing_read_meters.Goals as goal

pub returns : goal.returns
returns c =
    packet-as c.read_meters.result c.meters.ensures c.read_meters.ensures
