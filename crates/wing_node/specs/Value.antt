-- Node values as 01 has them, and what the getters give.
use Rattle.std.specs.Prelude.{ℕ, ◌-◌, List, ◌++◌, length, take, replicate, ℤ, pos, Option, Some, None}
use Rattle.wing_node.specs.Decimal.{decimal}
use Rattle.wing_node.specs.declared.value.Value.{Value}
use Rattle.wing_node.specs.declared.value.Value.TheVariants.{Integer, Float, String}
use Rattle.wing_node.specs.declared.value.StringRead.{StringRead}

-- a value: values are the same if their kinds are and their integers, float bits or string bytes are
pub data NodeValue : Type 0 where
  integer : ℤ → NodeValue
  float : ℕ → NodeValue
  string : List ℕ → NodeValue

-- what a Value and the bytes beside it stand for; a length over 256 reaches no further than the 256 bytes
unfoldable pub node_value : Value → List ℕ → NodeValue
node_value (Integer x) s = integer x
node_value (Float bits) s = float bits
node_value (String n) s = string (take n s)

-- 01: the integer getter gives 0 for other kinds
unfoldable pub int_in : Value → ℤ
int_in (Integer x) = x
int_in (Float bits) = pos 0
int_in (String n) = pos 0

-- a string, or none
pub data MaybeString : Type 0 where
  no_string : MaybeString
  some : List ℕ → MaybeString

-- 01: the string getter gives the string, an integer's decimal, and none for a float
unfoldable pub string_in : NodeValue → MaybeString
string_in (integer x) = some (decimal x)
string_in (float bits) = no_string
string_in (string s) = some s

-- the getter's answer: the length, with the bytes in an array of 256, zero-filled
unfoldable pub answer_of : MaybeString → Option StringRead
answer_of no_string = None
answer_of (some s) = Some (record { len = length s; bytes = s ++ replicate (256 - length s) 0 })
