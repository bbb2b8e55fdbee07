-- 01's number and values for each case of the mirror's answers.
use Rattle.std.specs.Prelude.{ℕ, Ok, Some, Option, None, Err}
use Rattle.wing_node.specs.Result.{Result}
use Rattle.wing_node.specs.Value.{node_value}
use Rattle.wing_mirror.specs.Rows.{Found, found, nothing}
use Rattle.wing_mirror.specs.Entry.{Entry, entry}
use Rattle.wing_mirror.specs.declared.answer.RecordRead.{RecordRead}

-- 01: an id's record number or none
unfoldable pub lookup_result : Result (Option ℕ) → Result (Found ℕ)
lookup_result (Ok (Some n)) = Ok (found n)
lookup_result (Ok None) = Ok nothing
lookup_result (Err why) = Err why

-- 01: a record is read by number: its node, value and (02) origin, with the bytes of a string beside it
unfoldable pub record_result : Result RecordRead → Result Entry
record_result (Ok r) = Ok (entry r.id (node_value r.value r.string) r.origin)
record_result (Err why) = Err why
