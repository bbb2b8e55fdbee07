-- The contract of the library's call, of the fields as `fields_given` gives them, with its answer by numbers (`body-as`).
use Rattle.wing_c.proofs.Effects.{body-as}
use Rattle.wing_c.proofs.writer.wing_write_definition.Goals as goal

pub returns : goal.returns
returns c =
    body-as c.to_bytes.result c.written.ensures (rw c.fields_given.ensures at c.to_bytes.ensures)
