-- The law `worked` of wing_meters.
use Rattle.wing_meters.proofs.Worked.{worked}
use Rattle.promises.proofs.window_cases.Goals as goal

pub returns : goal.returns
returns c = worked
