-- A window over readings by numbers (02): its state, what it tells, and what each of its calls leaves.
use Rattle.std.specs.Prelude.{ℕ, List, ℤ, pos, Ok, Some, Option, None, Err}
use Rattle.wing_meters.specs.Window.{control, window, fresh_window}
use Rattle.wing_meters.specs.Calls.{RowsEffect}
use Rattle.wing_meters.specs.declared.window.Window.{Window}
use Rattle.wing_meters.specs.declared.reading.Taken.{Taken}
use Rattle.wing_meters.specs.declared.reading.Followed.{Followed}
use Rattle.wing_c.specs.Numbers.{minus}
use Rattle.wing_c.specs.declared.windows.WingWindow.{WingWindow}
use Rattle.wing_c.specs.declared.windows.WingFigures.{WingFigures}
use Rattle.wing_c.specs.declared.windows.WingMade.{WingMade}
use Rattle.wing_c.specs.declared.windows.WingTaken.{WingTaken}
use Rattle.wing_c.specs.declared.windows.WingFollowed.{WingFollowed}
use Rattle.wing_node.specs.Result.{Result}
use Rattle.wing_meters.specs.declared.figures.Figures.{Figures}
use Rattle.wing_node.specs.Refusal.{refusal_number}

-- a window's state, field by field
abbrev pub window_numbers : Window → WingWindow
window_numbers w =
    let c = w.control in
    record { width = c.width; held = c.held; next = c.next; top = c.top; sum = c.sum; levels = w.levels }

-- the window whose state is given
abbrev pub window_given : WingWindow → Window
window_given w = window (control w.width w.held w.next w.top w.sum) w.levels

-- no figures: 0 for none, or a refusal
abbrev pub no_figures : ℤ → WingFigures
no_figures status = record { status = status; held = 0; sum = pos 0; mean = pos 0; rest = 0; top = pos 0 }

-- what a window tells: 1 and the figures, or 0 for none
abbrev pub told_numbers : Result (Option Figures) → WingFigures
told_numbers (Ok None) = no_figures (pos 0)
told_numbers (Ok (Some f)) = record { status = pos 1; held = f.held; sum = f.sum; mean = f.mean; rest = f.rest; top = f.top }
told_numbers (Err why) = no_figures (minus (refusal_number why))

-- a window made: 0, and the window; beside a refusal stands a window of width 0, which every call refuses
abbrev pub made_numbers : Result Window → WingMade
made_numbers (Ok w) = record { status = pos 0; window = window_numbers w }
made_numbers (Err why) = record { status = minus (refusal_number why); window = window_numbers (fresh_window 0) }

-- a reading taken: the figures, and the window after it
abbrev pub reading_numbers : Taken → WingTaken
reading_numbers t = record { figures = told_numbers t.answer; window = window_numbers t.window }

-- how many rows, and the window after the readings
abbrev pub followed_as : ℤ → ℕ → Window → WingFollowed
followed_as status rows w = record { status = status; rows = rows; window = window_numbers w }

-- readings taken: 0 and a row of figures for each
abbrev pub followed_by : Result ℕ → Window → WingFollowed
followed_by (Ok n) w = followed_as (pos 0) n w
followed_by (Err why) w = followed_as (minus (refusal_number why)) 0 w

-- with the window after them
abbrev pub followed_numbers : Followed → WingFollowed
followed_numbers f = followed_by f.answer f.window

-- what a call with many readings leaves: its numbers and the output
pub record RowsLeft : Type 0 where
  pub numbers : WingFollowed
  pub out : List ℤ

-- numbers and an output
abbrev pub rows_left : WingFollowed → List ℤ → RowsLeft
rows_left r out = record { numbers = r; out = out }

-- of what the library's call leaves
abbrev pub rows_from : RowsEffect → RowsLeft
rows_from e = rows_left (followed_numbers e.reply) e.out
