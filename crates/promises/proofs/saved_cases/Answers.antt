-- The law `worked` of wing_saved: what the definitions give in all cases is computed and is what is wanted.
use Rattle.wing_saved.proofs.Worked.{worked}
use Rattle.promises.proofs.saved_cases.Goals as goal

pub returns : goal.returns
returns c = worked
