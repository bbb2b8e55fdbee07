-- 01's table 'What is sent back', read as lines: a call is sent back for the first line that applies to it.
use Rattle.std.specs.Prelude.{Bool, ◌≡◌, List, [], ◌∷◌, Ok, Err}
use Rattle.wing_node.specs.Bool.{if}
use Rattle.wing_node.specs.Refusal.{no_fault, because, Fault}
use Rattle.wing_node.specs.Result.{Result, ok, refused}
use Rattle.wing_node.specs.declared.refusal.Refusal.{Refusal}

-- a line of the table: the refusal that it gives, if it applies
abbrev pub Line : Type 0
Line = Fault

infixl 20 ◌gives◌
-- a line by its test and what it gives
abbrev pub ◌gives◌ : Bool → Refusal → Line
test gives why = if test (because why) no_fault

-- what a call comes to by its lines: sent back by the first that applies; where none does, it is taken and gives this
unfoldable pub by : {A : Type 0} → List Line → A → Result A
by [] a = ok a
by ((Ok u) ∷ ls) a = by ls a
by (Err why ∷ ls) a = refused why

-- whether the lines send a call back, and why
abbrev pub sends : List Line → Result (Unit {0})
sends lines = by lines tt

-- a call, by what it came to: that is what its lines have, and sent back it leaves all as it was
pub record Answers {A : Type 0} (lines : List Line) (given : A) (came : Result A) (AsItWas : Type 0) : Type 0 where
  pub result : came ≡ by lines given
  pub as_it_was : (why : Refusal) → came ≡ refused why → AsItWas
