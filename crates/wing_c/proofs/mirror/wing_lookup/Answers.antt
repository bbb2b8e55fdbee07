-- The contract of the mirror's lookup, by numbers.
use Rattle.wing_c.specs.Numbers.{lookup_numbers}
use mathlib.Core.Path.{◌∙◌, ap}
use mir.Facts.{to_z-of_z}
use Rattle.wing_c.proofs.mirror.wing_lookup.Goals as goal

pub returns : goal.returns
returns c = c.found.ensures ∙ ap lookup_numbers (rw (to_z-of_z c.ranges.id) at c.lookup.ensures)
