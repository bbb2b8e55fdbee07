-- The bits of the id (`writes`), then that of `flip`.
use mir.Facts.{to_z-of_z}
use mathlib.Core.Path.{◌∙◌, ap, refl}
use Rattle.wing_mirror.specs.Entry.{flipped}
use Rattle.wing_node.proofs.Numerals.Signs.{writes}
use mir.Syntax.{w32}
use mir.Val.{of_z}
use Rattle.wing_mirror.proofs.record.rank.Goals as goal

pub returns : goal.returns
returns c = c.flip.ensures ∙ ap flipped (c.cast_unsigned.ensures ∙ ap (of_z w32) (to_z-of_z c.ranges.id) ∙ writes w32 refl c.args.id)
