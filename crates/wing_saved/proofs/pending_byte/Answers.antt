-- Each arm is the line of `pending_byte_of` with that variant.
use Rattle.wing_saved.specs.Saved.{pending_byte_of}
use Rattle.wing_saved.proofs.pending_byte.Goals as goal

pub returns-in-None : goal.returns-in-None
unfolding pending_byte_of
returns-in-None c = simp c.in-None.is

pub returns-in-Some : goal.returns-in-Some
unfolding pending_byte_of
returns-in-Some c = simp c.in-Some.is
