-- `keep_event` of a value, opened at the branch where it does not fit, leaves the table as it was.
use Rattle.wing_mirror.specs.Mirror.{keep_event}
use Rattle.promises.proofs.demand_1_unplaced.Goals as goal

pub returns : goal.returns
unfolding keep_event
returns c = λ node v k e. rw e
