-- Each arm is the line of `size_in` with that variant.
use mathlib.Core.Path.{sym, ap}
use Rattle.wing_mirror.specs.Sending.{size_in}
use Rattle.wing_mirror.proofs.recall.size_in.Goals as goal

pub returns-in-Ok : goal.returns-in-Ok
unfolding size_in
returns-in-Ok c = sym (ap size_in c.in-Ok.is)

pub returns-in-Err : goal.returns-in-Err
unfolding size_in
returns-in-Err c = sym (ap size_in c.in-Err.is)
