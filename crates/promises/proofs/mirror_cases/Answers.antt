-- The law `worked` of wing_mirror: what the definitions give in all cases is computed and is what is wanted.
use Rattle.wing_mirror.proofs.Worked.{worked}
use Rattle.promises.proofs.mirror_cases.Goals as goal

pub returns : goal.returns
returns c = worked
