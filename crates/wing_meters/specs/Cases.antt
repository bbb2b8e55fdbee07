-- Figures of some readings, written out: a table with one joint proof.
use Rattle.std.specs.Prelude.{ℕ, List, [], ◌∷◌, ℤ, pos, negsuc, replicate, Ok, Some, Option, None}
use Rattle.wing_meters.specs.Afresh.{last_of, figures, figures_of}
use Rattle.wing_node.specs.Result.{Result}
use Rattle.wing_meters.specs.declared.figures.Figures.{Figures}

-- what the definitions give, and what is wanted
pub record Case : Type 0 where
  pub got : Result (Option Figures)
  pub wanted : Result (Option Figures)

-- the figures of the last readings of a list at a width, and those wanted
abbrev pub case : ℕ → List ℤ → Result (Option Figures) → Case
case width xs told = record { got = figures_of (last_of width xs); wanted = told }

-- how many, sum, quotient, remainder, largest
abbrev pub tells : ℕ → ℤ → ℤ → ℕ → ℤ → Result (Option Figures)
tells held sum mean rest top = Ok (Some (figures held sum mean rest top))

-- negsuc n is −(n + 1)
unfoldable pub cases : List Case
cases =
    -- no readings
    case 5 [] (Ok None) ∷
    -- −1 and 0 at width 2: −1 of 2 is −1, and 1 is left
    case 2 (negsuc 0 ∷ pos 0 ∷ []) (tells 2 (negsuc 0) (negsuc 0) 1 (pos 0)) ∷
    -- not full yet: 7 of 2 is 3, and 1 is left
    case 256 (pos 3 ∷ pos 4 ∷ []) (tells 2 (pos 7) (pos 3) 1 (pos 4)) ∷
    -- width 1: the last reading alone
    case 1 (pos 5 ∷ negsuc 2 ∷ []) (tells 1 (negsuc 2) (negsuc 2) 0 (negsuc 2)) ∷
    -- of two equal largest ones one has left: 5, 5, 3
    case 2 (pos 5 ∷ pos 5 ∷ pos 3 ∷ []) (tells 2 (pos 8) (pos 4) 0 (pos 5)) ∷
    -- the largest has left: 9, 1, −9, 0 at width 3; −8 of 3 is −3, and 1 is left
    case 3 (pos 9 ∷ pos 1 ∷ negsuc 8 ∷ pos 0 ∷ []) (tells 3 (negsuc 7) (negsuc 2) 1 (pos 1)) ∷
    -- a full window at either end
    case 256 (pos 1 ∷ replicate 256 (negsuc 32767)) (tells 256 (negsuc 8388607) (negsuc 32767) 0 (negsuc 32767)) ∷
    case 256 (pos 1 ∷ replicate 256 (pos 32767)) (tells 256 (pos 8388352) (pos 32767) 0 (pos 32767)) ∷ []
