-- The mirror's law `who-set-it`.
use Rattle.wing_mirror.proofs.Records.Full.{full-laws}
use Rattle.wing_mirror.proofs.Histories.Origins.{who-set-it}
use Rattle.promises.proofs.who_set_it.Goals as goal

pub returns : goal.returns
returns c = who-set-it full-laws
