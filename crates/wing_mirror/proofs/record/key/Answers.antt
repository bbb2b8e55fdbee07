-- The contract of `u32_at` gives the first four bytes as a number (`field-whole`), and that of `flip` its place in the order.
use mathlib.Core.Path.{◌∙◌, ap}
use native.Mathlib.Omega.{arith}
use Rattle.wing_node.proofs.Numerals.Placed.{field-whole}
use Rattle.wing_mirror.specs.Entry.{flipped}
use Rattle.wing_mirror.specs.Record.{key_of}
use Rattle.wing_mirror.proofs.record.key.Goals as goal

pub returns : goal.returns
unfolding key_of
returns g c = c.flip.ensures ∙ ap flipped (c.number_at.ensures ∙ field-whole 4 c.args.rec.now 0 (omega arith))
