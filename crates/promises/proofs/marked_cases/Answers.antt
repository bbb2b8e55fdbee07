-- The law `worked`: what the definitions give in all cases is computed and is what is wanted.
use Rattle.wing_wire.proofs.Worked.{worked}
use Rattle.promises.proofs.marked_cases.Goals as goal

pub returns : goal.returns
returns c = worked
