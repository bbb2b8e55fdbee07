-- The contract of the wire's call, with its answer by numbers (`command-as`).
use Rattle.wing_c.proofs.Effects.{command-as}
use Rattle.wing_c.proofs.commands.wing_keep_alive_meters.Goals as goal

pub returns : goal.returns
returns c =
    command-as c.keep_alive_meters.result c.written.ensures c.keep_alive_meters.ensures
