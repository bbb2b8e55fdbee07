-- The contract of the library's call on the window that is given, by numbers.
use Rattle.wing_c.proofs.Effects.{rows_as}
use Rattle.wing_c.proofs.windows.wing_window_readings.Goals as goal

pub returns : goal.returns
returns c =
    rows_as c.readings.result c.followed.ensures (rw c.given.ensures at c.readings.ensures)
