-- The law `windows-say`.
use Rattle.wing_c.proofs.SaidWindows.{windows-say}
use Rattle.wing_c.proofs.laws.numbers_say_windows.Goals as goal

pub returns : goal.returns
returns c = windows-say
