-- The contract of the library's call on the window that is given, by numbers.
use mathlib.Core.Path.{◌∙◌, ap}
use mir.Facts.{to_z-of_z}
use Rattle.wing_meters.specs.Calls.{reading_of}
use Rattle.wing_meters.specs.declared.window.Window.{Window}
use Rattle.wing_c.specs.Windows.{reading_numbers}
use Rattle.wing_c.proofs.windows.wing_window_reading.Goals as goal

pub returns : goal.returns
returns c =
    let call = rw (to_z-of_z c.ranges.x) at c.reading.ensures in
    c.taken.ensures ∙ ap reading_numbers (call ∙ ap (λ (w : Window). reading_of w c.args.x) c.given.ensures)
