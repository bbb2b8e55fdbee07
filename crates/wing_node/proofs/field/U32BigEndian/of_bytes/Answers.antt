-- Fewer bytes read as 0 (`field-short`); else the library's number of the first ones (`from_four`).
use mathlib.Core.Path.{sym, ◌∙◌}
use native.Mathlib.Omega.{arith}
use Rattle.wing_node.proofs.Numerals.BigEndian.{from_four}
use Rattle.wing_node.proofs.Numerals.Placed.{field-short}
use Rattle.wing_node.proofs.field.U32BigEndian.of_bytes.Goals as goal

pub returns-then-bytes-lt4 : goal.returns-then-bytes-lt4
returns-then-bytes-lt4 c = sym (field-short 4 _ _ (omega arith))

pub returns : goal.returns
returns c = c.from_be_bytes.ensures ∙ from_four c.args.bytes.now (omega arith)
