-- The contract of `write-request` with the byte dc.
use mir.Facts.{to_z-of_z}
use Rattle.wing_wire.proofs.request.request_node_data.Goals as goal

pub returns : goal.returns
returns c =
    rw (to_z-of_z c.ranges.id) at c.write_request.ensures
