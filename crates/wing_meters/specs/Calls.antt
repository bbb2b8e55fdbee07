-- The calls: what each answers, and the window after it.
use Rattle.std.specs.Prelude.{ℕ, ◌*◌, List, [], ◌∷◌, ◌++◌, ltb, ℤ, pos, length, drop, Ok, Some, Option, None, Err}
use Rattle.wing_node.specs.Bool.{if}
use Rattle.wing_meters.specs.Afresh.{figures_of}
use Rattle.wing_meters.specs.Window.{fresh_window, taking, kept_in, sound_window}
use Rattle.wing_meters.specs.declared.figures.Figures.{Figures}
use Rattle.wing_meters.specs.declared.window.Window.{Window}
use Rattle.wing_meters.specs.declared.reading.Taken.{Taken}
use Rattle.wing_meters.specs.declared.reading.Followed.{Followed}
use Rattle.wing_node.specs.Result.{Result}
use Rattle.wing_node.specs.declared.refusal.Refusal.TheVariants.{OutputShort, StateUnsound, WidthWrong}

-- 02: a width outside 1 to 256 is 19
unfoldable pub made_of : ℕ → Result Window
made_of width = if (ltb width 1) (Err WidthWrong) (if (ltb 256 width) (Err WidthWrong) (Ok (fresh_window width)))

-- 02: the figures of what the window holds, none if it holds none; a state that no list of readings leaves is 8
unfoldable pub figures_answer : Window → Result (Option Figures)
figures_answer w = if (sound_window w) (figures_of (kept_in w)) (Err StateUnsound)

-- an answer and the window after it
abbrev pub taken : Result (Option Figures) → Window → Taken
taken answer w = record { answer = answer; window = w }

-- 02: a reading goes in and the figures are told; 8, as it was
unfoldable pub reading_of : Window → ℤ → Taken
reading_of w x = if (sound_window w) (taken (figures_of (kept_in (taking w x))) (taking w x)) (taken (Err StateUnsound) w)

-- readings one after the other: the window after them
unfoldable pub after_all : Window → List ℤ → Window
after_all w [] = w
after_all w (x ∷ xs) = let r = reading_of w x in after_all r.window xs

-- and each answer
unfoldable pub answers : Window → List ℤ → List (Result (Option Figures))
answers w [] = []
answers w (x ∷ xs) = let r = reading_of w x in r.answer ∷ answers r.window xs

-- five figures in a row: how many, the sum, the quotient, the remainder, the largest
unfoldable pub row_of : Figures → List ℤ
row_of f = pos f.held ∷ f.sum ∷ f.mean ∷ pos f.rest ∷ f.top ∷ []

-- the row of an answer that has figures
unfoldable pub row_told : Result (Option Figures) → List ℤ
row_told (Ok None) = []
row_told (Ok (Some f)) = row_of f
row_told (Err n) = []

-- a row for each answer, one after the other
unfoldable pub rows : List (Result (Option Figures)) → List ℤ
rows [] = []
rows (a ∷ as') = row_told a ++ rows as'

-- what a call with many readings leaves: its answer with the window, and the output
pub record RowsEffect : Type 0 where
  pub reply : Followed
  pub out : List ℤ

-- a reply and the output
abbrev pub rows_effect : Followed → List ℤ → RowsEffect
rows_effect reply out = record { reply = reply; out = out }

-- an answer and the window after it
abbrev pub followed : Result ℕ → Window → Followed
followed answer w = record { answer = answer; window = w }

-- readings one after the other, a row of figures for each at the front of the output; 8, then 9 for an output too short for the whole, as it was
unfoldable pub readings_of : Window → List ℤ → List ℤ → RowsEffect
readings_of w xs out =
    if (sound_window w)
    (if (ltb (length out) (5 * length xs)) (rows_effect (followed (Err OutputShort) w) out)
    (rows_effect (followed (Ok (length xs)) (after_all w xs)) (rows (answers w xs) ++ drop (5 * length xs) out)))
    (rows_effect (followed (Err StateUnsound) w) out)
