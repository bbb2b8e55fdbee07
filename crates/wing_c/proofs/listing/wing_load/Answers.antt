-- The contract of the library's load, with its answer by numbers (`load-as`).
use Rattle.wing_c.proofs.Effects.{load-as}
use Rattle.wing_c.proofs.listing.wing_load.Goals as goal

pub returns : goal.returns
returns c =
    load-as c.load.result c.loaded.ensures c.load.ensures
