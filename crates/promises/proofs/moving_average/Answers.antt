-- The law `moving` of wing_meters.
use Rattle.wing_meters.proofs.Moves.{moving}
use Rattle.promises.proofs.moving_average.Goals as goal

pub returns : goal.returns
returns c = moving
