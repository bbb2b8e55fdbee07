-- Each slice is its part of the body, and `fields_of` gives the fields.
use mathlib.Core.Path.{◌∙◌}
use Rattle.wing_node.specs.Writer.{lent, body_of_fields}
use Rattle.wing_node.proofs.anew.write_read.Goals as goal

pub returns : goal.returns
returns c =
    let args = c.args in
    let fields = c.fields_of.ensures in
    let items = c.items_part-items.ensures.2 in
    let long = c.part_of-long_name.ensures.2 in
    let name = c.part_of-name.ensures.2 in
    c.to_bytes.ensures ∙ (λ j. body_of_fields (fields j) (lent (name j) (long j) (items j)) args.out.now)
