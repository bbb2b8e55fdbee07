-- What the code keeps up of the readings that are held, for private functions: the figures by the sum and the largest of the levels.
use Rattle.std.specs.Prelude.{ℕ, ◌*◌, ◌/◌, ◌%◌, ◌≤◌, ◌<◌, ◌≡◌, List, eqb, Ok, Some, Option, None}
use Rattle.wing_node.specs.Bool.{if}
use Rattle.wing_meters.specs.Afresh.{figures}
use Rattle.wing_meters.specs.Level.{lowered, reading_at, greatest}
use Rattle.wing_meters.specs.declared.figures.Figures.{Figures}
use Rattle.wing_meters.specs.declared.window.Control.{Control}
use Rattle.wing_node.specs.Result.{Result}

-- the figures of a window that holds any
unfoldable pub figures_kept : Control → Figures
figures_kept c = figures c.held (lowered c.sum c.held) (reading_at (c.sum / c.held)) (c.sum % c.held) (reading_at c.top)

-- none where it holds none
unfoldable pub told_kept : Control → Result (Option Figures)
told_kept c = if (eqb c.held 0) (Ok None) (Ok (Some (figures_kept c)))

-- what the figures ask of the numbers that are kept up
pub record InRange (c : Control) : Type 0 where
  pub few : c.held ≤ 256
  pub sum : c.sum ≤ 65535 * c.held

-- what the greatest level before says of the greatest of the levels after, where one left and one came
pub record TopBefore (top left came : ℕ) (levels : List ℕ) : Type 0 where
  -- where the new one is at least as large it is the largest
  pub above : top ≤ came → came ≡ greatest levels
  -- where another one left, the largest stays
  pub stays : came < top → (left ≡ top → ⊥) → top ≡ greatest levels
