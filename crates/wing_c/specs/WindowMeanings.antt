-- What the numbers of a window mean, by the header's words, and that each answer is the meaning of its numbers.
use Rattle.std.specs.Prelude.{ℕ, ◌≡◌, List, eqb, ℤ, pos, Ok, Some, Option, None, Err, false}
use Rattle.wing_node.specs.Bool.{if}
use Rattle.wing_meters.specs.Afresh.{figures}
use Rattle.wing_meters.specs.Calls.{made_of, figures_answer, taken, reading_of, followed, readings_of}
use Rattle.wing_meters.specs.declared.figures.Figures.{Figures}
use Rattle.wing_meters.specs.declared.window.Window.{Window}
use Rattle.wing_meters.specs.declared.reading.Taken.{Taken}
use Rattle.wing_meters.specs.declared.reading.Followed.{Followed}
use Rattle.wing_c.specs.Meanings.{by_status_and_good, NoGood}
use Rattle.wing_c.specs.Windows.{window_numbers, window_given, told_numbers, made_numbers, reading_numbers, followed_numbers, followed_by}
use Rattle.wing_c.specs.declared.windows.WingWindow.{WingWindow}
use Rattle.wing_c.specs.declared.windows.WingFigures.{WingFigures}
use Rattle.wing_c.specs.declared.windows.WingMade.{WingMade}
use Rattle.wing_c.specs.declared.windows.WingTaken.{WingTaken}
use Rattle.wing_c.specs.declared.windows.WingFollowed.{WingFollowed}
use Rattle.wing_node.specs.Result.{Result}
use Rattle.wing_meters.specs.Window.{sound_window}
use Rattle.wing_node.specs.declared.refusal.Refusal.{Refusal}

-- ---- what the numbers mean; a window's numbers mean the window that is given by them (`window_given`)

-- the five figures, each by its name
unfoldable pub figures_in : WingFigures → Figures
figures_in r = figures r.held r.sum r.mean r.rest r.top

-- what a window tells: 1 figures, 0 none
unfoldable pub told_in : WingFigures → Result (Option Figures)
told_in r = by_status_and_good r.status 0 Err (λ s. if (eqb s 1) (Ok (Some (figures_in r))) (Ok None))

-- a window made, or a refusal
unfoldable pub made_in : WingMade → Result Window
made_in r = by_status_and_good r.status 0 Err (λ _. Ok (window_given r.window))

-- a reading taken: the figures, and the window after it
unfoldable pub reading_in : WingTaken → Taken
reading_in r = taken (told_in r.figures) (window_given r.window)

-- readings taken: how many rows stand at the front of the output, and the window after them
unfoldable pub followed_in : WingFollowed → Followed
followed_in r = followed (by_status_and_good r.status 0 Err (λ _. Ok r.rows)) (window_given r.window)

-- ---- what holds of them

-- the numbers of this answer have five zeros for the figures
pub record NoFiguresZero (a : Result (Option Figures)) : Type 0 where
  pub held : (told_numbers a).held ≡ 0
  pub sum : (told_numbers a).sum ≡ pos 0
  pub mean : (told_numbers a).mean ≡ pos 0
  pub rest : (told_numbers a).rest ≡ 0
  pub top : (told_numbers a).top ≡ pos 0

-- every answer is what its numbers mean, with the window beside it
pub record WindowsSay : Type 0 where
  -- a window is its numbers, and numbers that are given are a window's
  pub window : (w : Window) → window_given (window_numbers w) ≡ w
  pub given : (w : WingWindow) → window_numbers (window_given w) ≡ w
  pub told : (a : Result (Option Figures)) → NoGood a → told_in (told_numbers a) ≡ a
  pub made : (m : Result Window) → NoGood m → made_in (made_numbers m) ≡ m
  pub reading : (t : Taken) → NoGood t.answer → reading_in (reading_numbers t) ≡ t
  pub readings : (f : Followed) → NoGood f.answer → followed_in (followed_numbers f) ≡ f
  -- what the calls answer is read back from their numbers, whatever they are given
  pub make_call : (width : ℕ) → made_in (made_numbers (made_of width)) ≡ made_of width
  pub figures_call : (w : Window) → told_in (told_numbers (figures_answer w)) ≡ figures_answer w
  pub reading_call : (w : Window) (x : ℤ) → reading_in (reading_numbers (reading_of w x)) ≡ reading_of w x
  pub readings_call : (w : Window) (xs out : List ℤ) → let f = (readings_of w xs out).reply in followed_in (followed_numbers f) ≡ f
  -- where a window tells none, or the status is a refusal, the figures are 0, and so are the rows
  pub none_zero : NoFiguresZero (Ok None)
  pub refused_zero : (why : Refusal) → NoFiguresZero (Err why)
  pub no_rows : (why : Refusal) (w : Window) → (followed_by (Err why) w).rows ≡ 0
  -- beside a refused width stands a window that every call refuses
  pub no_window : (why : Refusal) → sound_window (window_given (made_numbers (Err why)).window) ≡ false
