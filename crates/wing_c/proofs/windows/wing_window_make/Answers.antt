-- The contract of the library's call, by numbers.
use mathlib.Core.Path.{◌∙◌, ap}
use Rattle.wing_c.specs.Windows.{made_numbers}
use Rattle.wing_c.proofs.windows.wing_window_make.Goals as goal

pub returns : goal.returns
returns c = c.made.ensures ∙ ap made_numbers c.make.ensures
