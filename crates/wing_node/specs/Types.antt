-- The types and the units of a node, each in 01's order 0 to 7.
use Rattle.std.specs.Prelude.{ℕ, Bool, true, false, List, [], ◌∷◌, get_or}
use Rattle.wing_node.specs.declared.node_type.NodeType.{NodeType}
use Rattle.wing_node.specs.declared.node_type.NodeType.TheVariants.{Node, LinearFloat, LogarithmicFloat, FaderLevel, Integer, StringEnum, FloatEnum, String}
use Rattle.wing_node.specs.declared.node_type.NodeUnit.{NodeUnit}
use Rattle.wing_node.specs.declared.node_type.NodeUnit.TheVariants.{None, Db, Percent, Milliseconds, Hertz, Meters, Seconds, Octaves}

-- 01: types in order 0–7: node, linear float, log float, fader, integer, string enum, float enum, string
abbrev pub types : List NodeType
types = Node ∷ LinearFloat ∷ LogarithmicFloat ∷ FaderLevel ∷ Integer ∷ StringEnum ∷ FloatEnum ∷ String ∷ []

-- the units by number; the names are libwing's, as 01 has numbers alone
abbrev pub units : List NodeUnit
units = None ∷ Db ∷ Percent ∷ Milliseconds ∷ Hertz ∷ Meters ∷ Seconds ∷ Octaves ∷ []

-- 01: type and unit are 0 if over 7
unfoldable pub type_of : ℕ → NodeType
type_of n = get_or types n Node

-- 01: a unit over 7 is 0
unfoldable pub unit_of : ℕ → NodeUnit
unit_of n = get_or units n None

-- 01: types 5 and 6 have items
abbrev pub has_items : NodeType → Bool
has_items Node = false
has_items LinearFloat = false
has_items LogarithmicFloat = false
has_items FaderLevel = false
has_items Integer = false
has_items StringEnum = true
has_items FloatEnum = true
has_items String = false

-- 01's number of a type
abbrev pub type_number : NodeType → ℕ
type_number Node = 0
type_number LinearFloat = 1
type_number LogarithmicFloat = 2
type_number FaderLevel = 3
type_number Integer = 4
type_number StringEnum = 5
type_number FloatEnum = 6
type_number String = 7

-- the number of a unit
abbrev pub unit_number : NodeUnit → ℕ
unit_number None = 0
unit_number Db = 1
unit_number Percent = 2
unit_number Milliseconds = 3
unit_number Hertz = 4
unit_number Meters = 5
unit_number Seconds = 6
unit_number Octaves = 7
