-- Why a call is sent back. 01: with a number; 02: beside 1 and 5 stands the good of the string that is not UTF-8.
use Rattle.std.specs.Prelude.{ℕ, Bool, List, is_err, Ok, Err, Option, Some, None}
use Rattle.std.specs.Option.{unwrap_or}
use Rattle.std.specs.Result.{result_and}
use Rattle.wing_node.specs.Bool.{if}
use Rattle.wing_node.specs.Utf8.{good, utf8}
use Rattle.wing_node.specs.Result.{Result}
use Rattle.wing_node.specs.declared.refusal.Refusal.{Refusal}
use Rattle.wing_node.specs.declared.refusal.Refusal.TheVariants.{StringNotUtf8, DefinitionNotUtf8, BodyLong, BodyEmpty, DefinitionShort, NoPlace, TableUnsound, StateUnsound, OutputShort, StringLong, MetersOver, MeterIdLast, PacketSize, NumberOver, NameLong, FieldsUnfit, LineWrong, IdNotAbove, WidthWrong}

-- 01's and 02's number of each
abbrev pub refusal_number : Refusal → ℕ
refusal_number (StringNotUtf8 g) = 1
refusal_number BodyLong = 2
refusal_number BodyEmpty = 3
refusal_number DefinitionShort = 4
refusal_number (DefinitionNotUtf8 g) = 5
refusal_number NoPlace = 6
refusal_number TableUnsound = 7
refusal_number StateUnsound = 8
refusal_number OutputShort = 9
refusal_number StringLong = 10
refusal_number MetersOver = 11
refusal_number MeterIdLast = 12
refusal_number PacketSize = 13
refusal_number NumberOver = 14
refusal_number NameLong = 15
refusal_number FieldsUnfit = 16
refusal_number LineWrong = 17
refusal_number IdNotAbove = 18
refusal_number WidthWrong = 19

-- 02: the good that stands beside 1 and 5; the others have none
abbrev pub good_of : Refusal → Option ℕ
good_of (StringNotUtf8 g) = Some g
good_of (DefinitionNotUtf8 g) = Some g
good_of _ = None

-- and 0 where there is none
abbrev pub good_beside : Refusal → ℕ
good_beside why = unwrap_or (good_of why) 0

-- the refusal by its number alone: the good set aside, 0
abbrev pub good_aside : Refusal → Refusal
good_aside (StringNotUtf8 g) = StringNotUtf8 0
good_aside (DefinitionNotUtf8 g) = DefinitionNotUtf8 0
good_aside why = why

-- 1, of a string of the wire or to be set, with its good
abbrev pub string_not_utf8 : List ℕ → Refusal
string_not_utf8 s = StringNotUtf8 (good s)

-- 5, of a string of a definition, with its good
abbrev pub definition_not_utf8 : List ℕ → Refusal
definition_not_utf8 s = DefinitionNotUtf8 (good s)

-- whether something is at fault, and why
abbrev pub Fault : Type 0
Fault = Result (Unit {0})

-- nothing is at fault
abbrev pub no_fault : Fault
no_fault = Ok tt

-- something is, for this reason
abbrev pub because : Refusal → Fault
because why = Err why

-- whether something is at fault
abbrev pub is_refused : Fault → Bool
is_refused f = is_err f

-- the first of two faults, if there is any
abbrev pub first_fault : Fault → Fault → Fault
first_fault a b = result_and a b

-- 01: a string of the wire or to be set is UTF-8, or 1
unfoldable pub string_fault : List ℕ → Fault
string_fault s = if (utf8 s) no_fault (because (string_not_utf8 s))

-- 01: a definition's string is UTF-8, or 5
unfoldable pub text_fault : List ℕ → Fault
text_fault s = if (utf8 s) no_fault (because (definition_not_utf8 s))
