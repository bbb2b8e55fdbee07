-- What `taken_of` says, of the token that is read to its end.
use mir.Facts.{to_z-of_z}
use Rattle.wing_wire.proofs.unit.refuse.Goals as goal

pub returns : goal.returns
returns c = simp c.taken_of.ensures (rw (to_z-of_z c.ranges.node))
