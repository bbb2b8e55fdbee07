-- `set_bytes` of a float opened is the id, d5 and four bytes, whose lays one after the other the law `then` joins.
use mir.Facts.{to_z-of_z}
use Rattle.wing_wire.proofs.Writing.Lays.{then}
use Rattle.wing_wire.specs.Command.{id_bytes, set_bytes, value_bytes, float_bytes}
use Rattle.wing_wire.proofs.set.lay_set_float.Goals as goal

pub returns : goal.returns
unfolding set_bytes id_bytes value_bytes float_bytes
returns c =
    let z = to_z-of_z c.ranges.id in
    then (rw z at c.lay_id-at.ensures.laid) (then c.lay-next.ensures c.lay_number.ensures.laid)
