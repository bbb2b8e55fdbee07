-- A whole definition, of any type: what is laid reads back, whatever follows. It does not go by the types: it is the laws for lists of fields.
use Rattle.wing_node.specs.Written.{ReadsBack}
use Rattle.wing_node.proofs.Bodies.Laid.{definition-back, items_back}

-- fields that fit read back, whatever follows them
pub reads-back : ReadsBack
reads-back = record { definition = definition-back; items = items_back }
