-- The law `no_place_lem`.
use Rattle.promises.proofs.Tables.{no_place_lem}
use Rattle.promises.proofs.no_place.Goals as goal

pub returns : goal.returns
returns c = no_place_lem
