-- The heads that are written out, one joint proof: the whole table is computed at once.
use mathlib.Core.Path.{◌≡◌, refl}
use mathlib.Core.List.{map}
use Rattle.wing_node.specs.Digits.{digits_in}
use Rattle.wing_wire.specs.Earlier.{carried_token}
use Rattle.wing_saved.specs.Saved.{pending_flag, pending_byte_of, fields_of, head_under}
use Rattle.wing_saved.specs.Cases.{Case, head_is, earlier_head_is, old_head_is, class_is, cases}

-- what the definitions give in every case is what is wanted
pub worked : map (λ (c : Case). c.got) cases ≡ map (λ (c : Case). c.wanted) cases
unfolding cases head_is earlier_head_is old_head_is class_is carried_token head_under fields_of pending_flag pending_byte_of digits_in
worked = refl
