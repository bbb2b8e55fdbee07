-- Each arm is the line of `suffix_bytes` with that variant: after the id that `lay_id` lays comes nothing or one byte, and the law `then` joins them.
use mir.Facts.{to_z-of_z}
use Rattle.wing_wire.proofs.Writing.Lays.{then, nothing}
use Rattle.wing_wire.specs.Command.{id_bytes, suffix_bytes}
use Rattle.wing_wire.proofs.set.lay_format.Goals as goal

pub returns-in-None : goal.returns-in-None
unfolding id_bytes suffix_bytes
returns-in-None c =
    let z = to_z-of_z c.ranges.id in
    rw c.in-None.is (then (rw z at c.lay_id-at.ensures.laid) (nothing _ _))

pub returns-in-Some : goal.returns-in-Some
unfolding id_bytes suffix_bytes
returns-in-Some c =
    let z = to_z-of_z c.ranges.id in
    rw c.in-Some.is (then (rw z at c.lay_id-at.ensures.laid) c.lay.ensures)
