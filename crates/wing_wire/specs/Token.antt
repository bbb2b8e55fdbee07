-- 01's token table: the class of a first unit t, and how many units its token wants after it.
use Rattle.std.specs.Prelude.{◌≡◌, ℕ, ◌+◌, ◌-◌, ◌<◌, List, [], ◌∷◌, leb, Result, MatchResult}
use Rattle.wing_node.specs.Bool.{if}
use Rattle.wing_wire.specs.declared.token.Class.{Class}
use Rattle.wing_wire.specs.declared.token.Class.TheVariants.{NoEvent, Integer, String, Length, Int16, Int32, Float, Node, End, Count, LongCount}
use Rattle.wing_wire.specs.declared.token.Rule.{Rule}

-- a class and the units wanted
abbrev pub rule : Class → ℕ → Rule
rule class wants = record { class = class; wants = wants }

-- a row of the table: the first units from `low` to `high`
pub record Row : Type 0 where
  pub low : ℕ
  pub high : ℕ
  pub rule_at : ℕ → Rule

-- such a row, by its ends and what each first unit in it begins
abbrev pub from : ℕ → ℕ → (ℕ → Rule) → Row
from low high rule_at = record { low = low; high = high; rule_at = rule_at }

-- a row of one first unit
abbrev pub only : ℕ → Class → ℕ → Row
only t class wants = from t t (λ t. rule class wants)

-- 01's table of first units, row by row
abbrev pub table : List Row
table =
    from 0x00 0x3f (λ t. rule Integer 0) ∷
    from 0x80 0xbf (λ t. rule String (t - 0x80 + 1)) ∷
    from 0xc0 0xcf (λ t. rule String (t - 0xc0 + 1)) ∷
    only 0xd0 String 0 ∷
    only 0xd1 Length 1 ∷
    only 0xd3 Int16 2 ∷
    only 0xd4 Int32 4 ∷
    from 0xd5 0xd6 (λ t. rule Float 4) ∷
    only 0xd7 Node 4 ∷
    only 0xd2 NoEvent 2 ∷
    only 0xd9 NoEvent 1 ∷
    only 0xde End 0 ∷
    only 0xdf Count 2 ∷ []

-- the row of t, or no event: 40–7f, d8, da–dd, e0–ff
unfoldable pub rule_in : List Row → ℕ → Rule
rule_in [] t = rule NoEvent 0
rule_in (r ∷ rs) t = if (leb r.low t) (if (leb t r.high) (r.rule_at t) (rule_in rs t)) (rule_in rs t)

-- 01: what a first unit begins
unfoldable pub rule_of : ℕ → Rule
rule_of t = rule_in table t

-- the classes that the table has, in the order of their numbers
abbrev pub classes : List Class
classes = NoEvent ∷ Integer ∷ String ∷ Length ∷ Int16 ∷ Int32 ∷ Float ∷ Node ∷ End ∷ Count ∷ []

-- the number of a class; no row has LongCount, the 32-bit count of 02 after a count of 0
abbrev pub class_number : Class → ℕ
class_number NoEvent = 0
class_number Integer = 1
class_number String = 2
class_number Length = 3
class_number Int16 = 4
class_number Int32 = 5
class_number Float = 6
class_number Node = 7
class_number End = 8
class_number Count = 9
class_number LongCount = 10

-- the class with this number, or the number again where no class has it
abbrev pub IsNumbered : ℕ → Result Class ℕ → Type 0
IsNumbered n r = MatchResult r (λ class. class_number class ≡ n) (λ e. (e ≡ n) × (10 < n))

-- the most units that a number of a class is made of; a class that is no number has none
unfoldable pub width_of : Class → ℕ
width_of NoEvent = 2
width_of Integer = 0
width_of String = 0
width_of Length = 1
width_of Int16 = 2
width_of Int32 = 4
width_of Float = 4
width_of Node = 4
width_of End = 0
width_of Count = 2
width_of LongCount = 4
