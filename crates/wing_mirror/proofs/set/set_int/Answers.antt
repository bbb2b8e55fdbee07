-- The contract of `set_value`: every number may be stored.
use mathlib.Core.Path.{refl}
use mir.Facts.{to_z-of_z}
use Rattle.wing_node.specs.Value.{node_value}
use Rattle.wing_mirror.specs.Entry.{storable}
use Rattle.wing_mirror.proofs.set.set_int.Goals as goal

pub set_value-requires : goal.set_value-requires
unfolding storable node_value
set_value-requires c = refl

pub returns : goal.returns
unfolding node_value
returns c =
    rw (to_z-of_z c.ranges.id, to_z-of_z c.ranges.value) at c.set_value.ensures
