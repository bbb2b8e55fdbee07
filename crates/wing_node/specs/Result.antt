-- What a call comes to in 01's words: it is taken and gives something, or is sent back.
use Rattle.std.specs.Prelude.{Result as StdResult}
use Rattle.wing_node.specs.declared.refusal.Refusal.{Refusal}
pub use Rattle.std.specs.Prelude.{Ok as ok, Err as refused}

-- 01: sent back with a number, 02: and the good of a string; what a call that is taken gives is A
abbrev pub Result : Type 0 → Type 0
Result A = StdResult A Refusal
