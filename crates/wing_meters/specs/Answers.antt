-- For each answer enum, the papers' number and values.
use Rattle.std.specs.Prelude.{◌*◌, List, ℤ, take, Ok, Some, Option, None, Err, ℕ}
use Rattle.wing_node.specs.Result.{Result}
use Rattle.wing_meters.specs.declared.figures.Figures.{Figures}

-- 02: what a window tells: the figures, or that it holds none
pub data Shown : Type 0 where
  none : Shown
  some : Figures → Shown

-- 02: the figures, none, or 8
abbrev pub told_result : Result (Option Figures) → Result Shown
told_result (Ok None) = Ok none
told_result (Ok (Some f)) = Ok (some f)
told_result (Err why) = Err why

-- the rows at the front of the output, five numbers each, or 8 or 9
abbrev pub rows_result : Result ℕ → List ℤ → Result (List ℤ)
rows_result (Ok n) out = Ok (take (5 * n) out)
rows_result (Err why) out = Err why
