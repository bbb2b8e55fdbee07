-- The contract of the library's call on the window that is given, by numbers.
use mathlib.Core.Path.{◌∙◌, ap}
use Rattle.wing_meters.specs.Calls.{figures_answer}
use Rattle.wing_c.specs.Windows.{told_numbers}
use Rattle.wing_c.proofs.windows.wing_window_figures.Goals as goal

pub returns : goal.returns
returns c = c.told.ensures ∙ ap told_numbers (c.figures.ensures ∙ ap figures_answer c.given.ensures)
