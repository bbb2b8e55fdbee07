-- The contract of the library's print, with its answer by numbers (`command-as`).
use Rattle.wing_c.proofs.Effects.{command-as}
use Rattle.wing_c.proofs.listing.wing_print.Goals as goal

pub returns : goal.returns
returns c =
    command-as c.print.result c.written.ensures c.print.ensures
