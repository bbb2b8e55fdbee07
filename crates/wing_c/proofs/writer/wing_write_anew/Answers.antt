-- The contract of the library's call, with its answer by numbers (`body-as`).
use Rattle.wing_c.proofs.Effects.{body-as}
use Rattle.wing_c.proofs.writer.wing_write_anew.Goals as goal

pub returns : goal.returns
returns c =
    body-as c.write_anew.result c.written.ensures c.write_anew.ensures
