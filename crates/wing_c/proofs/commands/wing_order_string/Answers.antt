-- The contract of the wire's call, with its answer by numbers (`command-as`).
use mir.Facts.{to_z-of_z}
use Rattle.wing_c.proofs.Effects.{command-as}
use Rattle.wing_c.proofs.commands.wing_order_string.Goals as goal

pub returns : goal.returns
returns c =
    command-as c.set_string.result c.written.ensures (rw (to_z-of_z c.ranges.id) at c.set_string.ensures)
