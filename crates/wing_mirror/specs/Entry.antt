-- An entry: a node, its value and who gave it; and where it stands in the order of signed ids.
use Rattle.std.specs.Prelude.{ℕ, ◌+◌, ◌-◌, ◌^◌, ◌<◌, Bool, true, false, List, [], ◌∷◌, map, ltb, leb, ℤ, length}
use Rattle.std.specs.Int.Signed.{lt_z}
use Rattle.wing_node.specs.Bool.{if}
use Rattle.wing_node.specs.Signed.{unsigned, InBits}
use Rattle.wing_node.specs.Utf8.{utf8}
use Rattle.wing_node.specs.Value.{NodeValue, integer, float, string}
use Rattle.wing_mirror.specs.declared.origin.Origin.{Origin}
use Rattle.wing_mirror.specs.declared.origin.Origin.TheVariants.{Console}

-- a node, its value and, by 02, who gave it
pub record Entry : Type 0 where
  pub id : ℤ
  pub value : NodeValue
  pub origin : Origin

-- an entry by its node, value and origin
abbrev pub entry : ℤ → NodeValue → Origin → Entry
entry id value origin = record { id = id; value = value; origin = origin }

-- 02: the origin set aside: the same node and value, from the console
abbrev pub from_console : Entry → Entry
from_console e = entry e.id e.value Console

-- 01: a string of at most 256 bytes, UTF-8; every number
unfoldable pub storable : NodeValue → Bool
storable (integer x) = true
storable (float bits) = true
storable (string s) = if (leb (length s) 256) (utf8 s) false

-- numbers of 32 bits, as the types of the code have them
abbrev pub Typed : NodeValue → Type 0
Typed (integer x) = InBits 31 x
Typed (float bits) = bits < 256 ^ 4
Typed (string s) = Unit {0}

-- 01: strictly rising signed ids
unfoldable pub rising_ids : List ℤ → Bool
rising_ids [] = true
rising_ids (i ∷ []) = true
rising_ids (i ∷ j ∷ is) = if (lt_z i j) (rising_ids (j ∷ is)) false

-- the ids of entries, in order
abbrev pub ids : List Entry → List ℤ
ids es = map (λ (e : Entry). e.id) es

-- signed order as the order of numbers: the top bit of an id's 32 bits the other way
abbrev pub flipped : ℕ → ℕ
flipped n = if (ltb n 0x80000000) (n + 0x80000000) (n - 0x80000000)

-- where an id stands in the order: rank_less (proofs/Records/Ids.antt) says that this is signed order
abbrev pub rank_of : ℤ → ℕ
rank_of id = flipped (unsigned 31 id)
