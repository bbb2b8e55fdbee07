-- 02, Job 6: the figures of readings, worked out afresh from the readings themselves.
use Rattle.std.specs.Prelude.{ℕ, suc, ◌-◌, ◌/◌, ◌%◌, List, [], ◌∷◌, ℤ, pos, negsuc, ◌+ℤ◌, length, drop, Ok, Some, Option, None}
use Rattle.std.specs.Int.Signed.{lt_z}
use Rattle.wing_node.specs.Bool.{if}
use Rattle.wing_meters.specs.declared.figures.Figures.{Figures}
use Rattle.wing_node.specs.Result.{Result}

-- 02: the last readings of a list: the last w of it, or all where it has fewer
abbrev pub last_of {ℓ} : {A : Type ℓ} → ℕ → List A → List A
last_of w xs = drop (length xs - w) xs

-- 02: the sum
unfoldable pub total : List ℤ → ℤ
total [] = pos 0
total (x ∷ xs) = x +ℤ total xs

-- 02: the sum divided by a number as a whole quotient, rounded down: −(n + 1) divided by d is −(n div d + 1)
unfoldable pub quotient : ℤ → ℕ → ℤ
quotient (pos n) d = pos (n / d)
quotient (negsuc n) d = negsuc (n / d)

-- 02: its exact remainder, from 0 to d − 1: −(n + 1) is −(n div d + 1) times d, and d − 1 − n mod d
unfoldable pub remainder : ℤ → ℕ → ℕ
remainder (pos n) d = n % d
remainder (negsuc n) d = d - suc (n % d)

-- the larger of two
abbrev pub larger : ℤ → ℤ → ℤ
larger x y = if (lt_z x y) y x

-- 02: the largest reading, of x and those after it
unfoldable pub largest : ℤ → List ℤ → ℤ
largest x [] = x
largest x (y ∷ ys) = larger x (largest y ys)

-- 02: how many, the sum, the quotient with its remainder, the largest
abbrev pub figures : ℕ → ℤ → ℤ → ℕ → ℤ → Figures
figures held sum mean rest top = record { held = held; sum = sum; mean = mean; rest = rest; top = top }

-- 02: the figures of readings; of no readings, none
unfoldable pub figures_of : List ℤ → Result (Option Figures)
figures_of [] = (Ok None)
figures_of (x ∷ xs) =
    let n = length (x ∷ xs) in
    let sum = total (x ∷ xs) in
    Ok (Some (figures n sum (quotient sum n) (remainder sum n) (largest x xs)))
