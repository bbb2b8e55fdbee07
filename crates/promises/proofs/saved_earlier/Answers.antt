-- The laws of states saved under version 1, as `wing_saved` has them.
use Rattle.wing_saved.proofs.Saving.Before.{earlier-laws}
use Rattle.promises.proofs.saved_earlier.Goals as goal

pub returns : goal.returns
returns c = earlier-laws
