-- The set orders of records, and how many bytes a writer says it wrote.
use Rattle.std.specs.Prelude.{ℕ, List, map, Ok, Err}
use Rattle.wing_node.specs.Bytes.{joined}
use Rattle.wing_mirror.specs.Record.{entry_in}
use Rattle.wing_mirror.specs.Recall.{set_of}
use Rattle.wing_node.specs.Result.{Result}

-- the set order of a record
abbrev pub order_in : List ℕ → List ℕ
order_in r = set_of (entry_in r)

-- those of records, one after the other
abbrev pub orders_of : List (List ℕ) → List ℕ
orders_of rs = joined (map set_of (map entry_in rs))

-- the bytes that a writer wrote, 0 if it refused
unfoldable pub size_in : Result ℕ → ℕ
size_in (Ok n) = n
size_in (Err why) = 0
