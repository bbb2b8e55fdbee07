-- `set_bytes` of an integer opened is the id and the integer, whose lays one after the other the law `then` joins.
use mir.Facts.{to_z-of_z}
use Rattle.wing_wire.proofs.Writing.Lays.{then}
use Rattle.wing_wire.specs.Command.{id_bytes, set_bytes, value_bytes}
use Rattle.wing_wire.proofs.set.lay_set_int.Goals as goal

pub returns : goal.returns
unfolding set_bytes id_bytes value_bytes
returns c =
    let z = to_z-of_z c.ranges.id in
    let y = to_z-of_z c.ranges.value in
    then (rw z at c.lay_id-at.ensures.laid) (rw y at c.lay_integer.ensures)
