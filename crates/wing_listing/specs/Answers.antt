-- The number and values for each case of a load's answer.
use Rattle.std.specs.Prelude.{ℕ, Ok, Err, Result as StdResult}
use Rattle.wing_node.specs.Result.{Result}
use Rattle.wing_listing.specs.declared.answer.BadLine.{BadLine}

-- how many records were loaded, or why the text was sent back and which line that is about
abbrev pub Loaded : Type 0
Loaded = StdResult ℕ BadLine

-- how many records were loaded, or the refusal
unfoldable pub loaded_result : Loaded → Result ℕ
loaded_result (Ok n) = Ok n
loaded_result (Err b) = Err b.why

-- the line that a refusal is about: the header is 1; 0 for none
unfoldable pub line_in : Loaded → ℕ
line_in (Ok n) = 0
line_in (Err b) = b.line
