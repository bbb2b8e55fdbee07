-- The refusals with which a call is sent back: 01's table, and those that 02 adds. Each is a number alone, but for 1 and 5, beside which stands the string's good
-- (02). Which numbers they are, `numbers` says at the end.
use Rattle.std.specs.Prelude.{ℕ, ◌≡◌, List, [], ◌∷◌}
use Rattle.wing_node.specs.Refusal.{refusal_number}
use Rattle.wing_node.specs.declared.refusal.Refusal.{Refusal}
use Rattle.wing_node.specs.declared.refusal.Refusal.TheVariants.{StringNotUtf8, DefinitionNotUtf8, BodyEmpty, BodyLong, DefinitionShort, FieldsUnfit, IdNotAbove, LineWrong, MeterIdLast, MetersOver, NameLong, NoPlace, NumberOver, OutputShort, PacketSize, StateUnsound, StringLong, TableUnsound, WidthWrong}

-- string not UTF-8; 02: with its good
abbrev pub string_wrong : ℕ → Refusal
string_wrong good = StringNotUtf8 good

-- 02: a definition's count in force over 4,096; a body over 4,096
abbrev pub body_long : Refusal
body_long = BodyLong

-- 02: both counts of a definition 0
abbrev pub body_empty : Refusal
body_empty = BodyEmpty

-- definition field past the end
abbrev pub definition_short : Refusal
definition_short = DefinitionShort

-- definition string not UTF-8; 02: a name or item string to be written that isn't; with its good
abbrev pub definition_wrong : ℕ → Refusal
definition_wrong good = DefinitionNotUtf8 good

-- new node, no place left; 02: a listing with more records than places
abbrev pub no_place : Refusal
no_place = NoPlace

-- table unsound or places outside 1–1,024
abbrev pub table_unsound : Refusal
table_unsound = TableUnsound

-- state unsound; 02: an old state that has taken any of the four units after count 0; a window state that no list of readings leaves
abbrev pub state_unsound : Refusal
state_unsound = StateUnsound

-- output too short for the whole
abbrev pub output_short : Refusal
output_short = OutputShort

-- string over 256
abbrev pub string_long : Refusal
string_long = StringLong

-- more than 64 meters
abbrev pub meters_over : Refusal
meters_over = MetersOver

-- last meter id 65,535
abbrev pub meter_id_last : Refusal
meter_id_last = MeterIdLast

-- packet outside 4–8,192
abbrev pub packet_size : Refusal
packet_size = PacketSize

-- feed or next over 65,536 bytes; item or record number not below its count; 02: a listing over 65,536 bytes
abbrev pub number_over : Refusal
number_over = NumberOver

-- 02: a name over 255 bytes
abbrev pub name_long : Refusal
name_long = NameLong

-- 02: a type or unit over 7; item bytes that aren't exactly the given count of the type's items; a count above 0 or item bytes with a type that has none
abbrev pub fields_unfit : Refusal
fields_unfit = FieldsUnfit

-- 02: a listing's header or line out of form
abbrev pub line_wrong : Refusal
line_wrong = LineWrong

-- 02: an id in a listing not above the one before
abbrev pub id_not_above : Refusal
id_not_above = IdNotAbove

-- 02: a window's width outside 1 to 256
abbrev pub width_wrong : Refusal
width_wrong = WidthWrong

-- the number of each, in the order above, whatever the goods are
abbrev pub numbers : ℕ → ℕ → List ℕ
numbers g h =
    refusal_number (string_wrong g) ∷ refusal_number body_long ∷ refusal_number body_empty ∷ refusal_number definition_short ∷ refusal_number (definition_wrong h) ∷
    refusal_number no_place ∷ refusal_number table_unsound ∷ refusal_number state_unsound ∷ refusal_number output_short ∷ refusal_number string_long ∷ refusal_number meters_over ∷
    refusal_number meter_id_last ∷ refusal_number packet_size ∷ refusal_number number_over ∷ refusal_number name_long ∷ refusal_number fields_unfit ∷ refusal_number line_wrong ∷
    refusal_number id_not_above ∷ refusal_number width_wrong ∷ []

-- 1 to 19
abbrev pub Numbered : Type 0
Numbered = (g h : ℕ) → numbers g h ≡ 1 ∷ 2 ∷ 3 ∷ 4 ∷ 5 ∷ 6 ∷ 7 ∷ 8 ∷ 9 ∷ 10 ∷ 11 ∷ 12 ∷ 13 ∷ 14 ∷ 15 ∷ 16 ∷ 17 ∷ 18 ∷ 19 ∷ []
