-- The figures by `told`, the window by `kept`.
use Rattle.wing_c.proofs.windows.taken.Goals as goal

pub returns : goal.returns
returns c = simp (c.told.ensures, c.kept.ensures)
