-- 01, Tokens: what one unit makes of the token in progress and of the store, and the event or refusal that it completes.
use Rattle.std.specs.Prelude.{ℕ, ◌+◌, ◌-◌, ◌*◌, ◌%◌, Bool, true, false, List, ◌++◌, ltb, leb, eqb, ℤ, pos, length, take, drop, set, replicate}
use Rattle.wing_node.specs.Bool.{if}
use Rattle.wing_node.specs.Signed.{signed}
use Rattle.wing_node.specs.Utf8.{utf8}
use Rattle.wing_node.specs.Refusal.{string_not_utf8}
use Rattle.wing_wire.specs.State.{body_limit}
use Rattle.wing_wire.specs.Token.{rule_of}
use Rattle.wing_wire.specs.declared.token.Class.{Class}
use Rattle.wing_wire.specs.declared.token.Class.TheVariants.{NoEvent, Integer, String, Length, Int16, Int32, Float, Node, End, Count, LongCount}
use Rattle.wing_wire.specs.declared.state.Token.{Token}
use Rattle.wing_wire.specs.declared.state.Token.TheVariants.{Between, Number, String as InString, Body as InBody}
use Rattle.wing_wire.specs.declared.unit.Answer.{Answer}
use Rattle.wing_wire.specs.declared.unit.Answer.TheVariants.{More, Integer as an_integer, Float as a_float, String as a_string, Body as a_body, End as an_end, Refused}
use Rattle.wing_wire.specs.declared.unit.Taken.{Taken}
use Rattle.wing_node.specs.declared.refusal.Refusal.TheVariants.{BodyEmpty, BodyLong}

-- an answer, the node and the token after it
abbrev pub taken : Answer → ℤ → Token → Taken
taken answer node token = record { answer = answer; node = node; token = token }

-- an event or a refusal, after which the reader stands between tokens
abbrev pub completes : ℤ → Answer → Taken
completes node answer = taken answer node Between

-- nothing yet
abbrev pub awaits : ℤ → Token → Taken
awaits node token = taken More node token

-- 01: a first unit that is its whole token: integer t, empty string, end, or no event
unfoldable pub single_of : Class → ℕ → Answer
single_of NoEvent t = More
single_of Integer t = an_integer (pos t)
single_of String t = a_string 0
single_of Length t = More
single_of Int16 t = More
single_of Int32 t = More
single_of Float t = More
single_of Node t = More
single_of End t = an_end
single_of Count t = More
single_of LongCount t = More

-- whether a class is that of strings
unfoldable pub is_string : Class → Bool
is_string NoEvent = false
is_string Integer = false
is_string String = true
is_string Length = false
is_string Int16 = false
is_string Int32 = false
is_string Float = false
is_string Node = false
is_string End = false
is_string Count = false
is_string LongCount = false

-- a token that wants units: those of a string, or those of a number
unfoldable pub token_of : Class → ℕ → Token
token_of class wants = if (is_string class) (InString wants wants) (Number class wants 0)

-- the first unit of a token, by the table
unfoldable pub begin_of : ℤ → ℕ → Taken
begin_of node t =
    if (eqb (rule_of t).wants 0) (completes node (single_of (rule_of t).class t))
    (awaits node (token_of (rule_of t).class (rule_of t).wants))

-- 01: count c, then c units
abbrev pub counted : ℤ → ℕ → Taken
counted node c = awaits node (InBody 0 c c)

-- 01: df: 16-bit count; 02: after count 0 comes a 32-bit count
unfoldable pub count_of : ℤ → ℕ → Taken
count_of node c = if (eqb c 0) (awaits node (Number LongCount 4 0)) (counted node c)

-- 02: the 32-bit count is the count; refusal 3: both counts are 0
unfoldable pub long_count_of : ℤ → ℕ → Taken
long_count_of node c = if (eqb c 0) (completes node (Refused BodyEmpty)) (counted node c)

-- what a number gives when its last unit is there. The remainders keep each case in the width of its units
unfoldable pub number_of : ℤ → Class → ℕ → Taken
number_of node NoEvent v = completes node More
number_of node Integer v = completes node More
number_of node String v = completes node More
number_of node Length v = awaits node (InString (v % 0x100 + 1) (v % 0x100 + 1))
number_of node Int16 v = completes node (an_integer (signed 15 (v % 0x10000)))
number_of node Int32 v = completes node (an_integer (signed 31 v))
number_of node Float v = completes node (a_float v)
number_of node Node v = completes (signed 31 v) More
number_of node End v = completes node More
number_of node Count v = count_of node (v % 0x10000)
number_of node LongCount v = long_count_of node v

-- a number of 32 bits with one unit more at its end
abbrev pub shift_in : ℕ → ℕ → ℕ
shift_in v u = v % 0x1000000 * 256 + u

-- one more unit of a number: its last one gives what the number gives
unfoldable pub number_unit : ℤ → Class → ℕ → ℕ → ℕ → Taken
number_unit node class left v u =
    if (leb left 1) (number_of node class (shift_in v u)) (awaits node (Number class (left - 1) (shift_in v u)))

-- what stands in the reader and in its store after a unit
pub record UnitEffect : Type 0 where
  pub taken : Taken
  pub store : List ℕ

-- with the store
abbrev pub unit_effect : Taken → List ℕ → UnitEffect
unit_effect t s = record { taken = t; store = s }

-- the store with its first n bytes 0
abbrev pub cleared : ℕ → List ℕ → List ℕ
cleared n s = replicate (length (take n s)) 0 ++ drop n s

-- 01: strings are UTF-8, else refusal 1
unfoldable pub string_done : ℤ → ℕ → List ℕ → UnitEffect
string_done node want s =
    let t = take want s in
    if (utf8 t) (unit_effect (completes node (a_string want)) s) (unit_effect (completes node (Refused (string_not_utf8 t))) (cleared want s))

-- every unit of a string is stored
unfoldable pub string_unit : ℤ → ℕ → ℕ → List ℕ → ℕ → UnitEffect
string_unit node want left s u =
    if (leb left 1) (string_done node want (set s (want - left) u))
    (unit_effect (awaits node (InString want (left - 1))) (set s (want - left) u))

-- 01: a body is what its units append; of a count over 4,096 nothing is kept
unfoldable pub keeps : ℕ → ℕ → Bool → Bool
keeps want stored appended = if appended (if (leb want body_limit) (ltb stored body_limit) false) false

-- 01: count over 4,096 reads all c units, then answers 2; 02: 2 means that the count in force is over 4,096
unfoldable pub body_done : ℤ → ℕ → ℕ → Taken
body_done node want stored = if (leb want body_limit) (completes node (a_body stored)) (completes node (Refused BodyLong))

-- one unit less is wanted; the last one gives the body
unfoldable pub body_next : ℤ → ℕ → ℕ → ℕ → Taken
body_next node want left stored =
    if (leb left 1) (body_done node want stored) (awaits node (InBody stored want (left - 1)))

-- 01: a body's units, appended or not
unfoldable pub body_unit : ℤ → ℕ → ℕ → ℕ → List ℕ → ℕ → Bool → UnitEffect
body_unit node want left stored s u appended =
    if (keeps want stored appended) (unit_effect (body_next node want left (stored + 1)) (set s stored u))
    (unit_effect (body_next node want left stored) s)

-- one unit
unfoldable pub unit_of : ℤ → Token → List ℕ → ℕ → Bool → UnitEffect
unit_of node Between s u appended = unit_effect (begin_of node u) s
unit_of node (Number class left v) s u appended = unit_effect (number_unit node class left v u) s
unit_of node (InString want left) s u appended = string_unit node want left s u
unit_of node (InBody stored want left) s u appended = body_unit node want left stored s u appended
