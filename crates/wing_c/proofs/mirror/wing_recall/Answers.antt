-- The contract of the mirror's recall, with its answer by numbers (`command-as`).
use Rattle.wing_c.proofs.Effects.{command-as}
use Rattle.wing_c.proofs.mirror.wing_recall.Goals as goal

pub returns : goal.returns
returns c =
    command-as c.recall.result c.written.ensures c.recall.ensures
