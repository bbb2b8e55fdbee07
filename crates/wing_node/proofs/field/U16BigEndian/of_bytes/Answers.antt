-- Fewer bytes read as 0 (`field-short`); else the library's number of the first ones (`from_two`).
use mathlib.Core.Path.{sym, ◌∙◌}
use native.Mathlib.Omega.{arith}
use Rattle.wing_node.proofs.Numerals.BigEndian.{from_two}
use Rattle.wing_node.proofs.Numerals.Placed.{field-short}
use Rattle.wing_node.proofs.field.U16BigEndian.of_bytes.Goals as goal

pub returns-then-bytes-lt2 : goal.returns-then-bytes-lt2
returns-then-bytes-lt2 c = sym (field-short 2 _ _ (omega arith))

pub returns : goal.returns
returns c = c.from_be_bytes.ensures ∙ from_two c.args.bytes.now (omega arith)
