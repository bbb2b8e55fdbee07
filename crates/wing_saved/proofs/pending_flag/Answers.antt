-- Each arm is the line of `pending_flag` with that variant.
use Rattle.wing_saved.specs.Saved.{pending_flag}
use Rattle.wing_saved.proofs.pending_flag.Goals as goal

pub returns-in-None : goal.returns-in-None
unfolding pending_flag
returns-in-None c = simp c.in-None.is

pub returns-in-Some : goal.returns-in-Some
unfolding pending_flag
returns-in-Some c = simp c.in-Some.is
