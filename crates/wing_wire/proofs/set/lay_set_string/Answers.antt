-- `set_bytes` of a string opened is the id, the length and the escaped bytes, whose lays one after the other the law `then` joins.
use mir.Facts.{to_z-of_z}
use Rattle.wing_wire.proofs.Writing.Lays.{then}
use Rattle.wing_wire.specs.Command.{id_bytes, set_bytes, value_bytes, string_bytes}
use Rattle.wing_wire.proofs.set.lay_set_string.Goals as goal

pub returns : goal.returns
unfolding set_bytes id_bytes value_bytes string_bytes
returns c =
    let z = to_z-of_z c.ranges.id in
    then (rw z at c.lay_id-at.ensures.laid) (then c.lay_length-next.ensures.laid c.lay_escaped.ensures.laid)
