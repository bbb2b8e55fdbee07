-- The contract of the wire's call, with its answer by numbers (`command-as`).
use mir.Facts.{to_z-of_z}
use Rattle.wing_c.proofs.Effects.{command-as}
use Rattle.wing_c.proofs.commands.wing_request_node_definition.Goals as goal

pub returns : goal.returns
returns c =
    command-as c.request_node_definition.result c.written.ensures (rw (to_z-of_z c.ranges.id) at c.request_node_definition.ensures)
