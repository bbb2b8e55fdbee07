-- wing_saved's laws of a saved state: its fields read back, and bytes are taken only as the fields of what they say.
use Rattle.wing_saved.proofs.Saving.Trips.{saved-laws}
use Rattle.promises.proofs.saved_states.Goals as goal

pub returns : goal.returns
returns c = saved-laws
