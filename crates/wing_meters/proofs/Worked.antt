-- Every case of the table, computed.
use mathlib.Core.Path.{◌≡◌, refl}
use mathlib.Core.List.{map}
use Rattle.wing_meters.specs.Afresh.{total, quotient, remainder, largest, figures_of}
use Rattle.wing_meters.specs.Cases.{Case, cases}

pub worked : map (λ (c : Case). c.got) cases ≡ map (λ (c : Case). c.wanted) cases
unfolding cases figures_of total quotient remainder largest
worked = refl
