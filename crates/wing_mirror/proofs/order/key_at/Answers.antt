-- The contract of `key` on the record that `row` gives.
use mathlib.Core.Path.{◌∙◌, ap}
use Rattle.wing_mirror.specs.Record.{key_of}
use Rattle.wing_mirror.proofs.order.key_at.Goals as goal

pub returns : goal.returns
returns g c = c.key.ensures ∙ ap key_of c.row.ensures
