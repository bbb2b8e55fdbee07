-- What is promised of a window over a strip's last readings (02, Job 6), by each call's arguments, its answer, and the window and the lent buffer after it.
use Rattle.std.specs.Prelude.{ℕ, ◌+◌, ◌*◌, ◌<◌, ◌≡◌, List, [], ◌∷◌, ◌++◌, ltb, ℤ, pos, length, take, drop, Ok, Some, Option, is_ok, true}
use Rattle.wing_node.specs.declared.refusal.Refusal.{Refusal}
use Rattle.wing_node.specs.Result.{refused, Result, ok}
use Rattle.wing_meters.specs.Afresh.{last_of, figures_of}
use Rattle.wing_meters.specs.Window.{leaves}
use Rattle.wing_meters.specs.Calls.{made_of, figures_answer, taken, reading_of, rows_effect, followed, readings_of}
use Rattle.wing_meters.specs.Moving.{Readings, Width, Leaves, Left, afresh_rows}
use Rattle.wing_meters.specs.Answers.{told_result, rows_result}
use Rattle.wing_meters.specs.declared.figures.Figures.{Figures}
use Rattle.wing_meters.specs.declared.window.Window.{Window}
use Rattle.promises.specs.Refusals.{state_unsound, output_short, width_wrong}
use Rattle.promises.specs.Lines.{Line, ◌gives◌, Answers, by}

-- a window made: a width outside 1 to 256
abbrev pub width_lines : ℕ → List Line
width_lines width = (ltb width 1 gives width_wrong) ∷ (ltb 256 width gives width_wrong) ∷ []

-- many readings: too short an output
abbrev pub rows_lines : List ℤ → List ℤ → List Line
rows_lines xs out = (ltb (length out) (5 * length xs) gives output_short) ∷ []

-- a window made: 19; else the window that the empty list leaves
pub record MakeCall (width : ℕ) (answer : Result Window) : Type 0 where
  pub answered : answer ≡ by (width_lines width) (leaves width [])
  -- 02: a width from 1 to 256, exactly: a width that is taken is one, and of every such width the window is what the empty list of readings leaves
  pub wide : is_ok answer ≡ true → Width width
  pub left : Width width → (w : Window) → answer ≡ ok w → Leaves width [] w
  -- it is the call that Calls of wing_meters' specs/ defines
  pub same : answer ≡ made_of width

-- a reading that goes into a window
pub record ReadingCall (w : Window) (x : ℤ) (answer : Result (Option Figures)) (after : Window) : Type 0 where
  -- whatever readings left the window: the figures worked out afresh from the last of them and this one, and the window that all of them leave
  pub afresh : (width : ℕ) (xs : List ℤ) → Leaves width xs w →
      (told_result answer ≡ told_result (figures_of (last_of width (xs ++ (x ∷ []))))) × (after ≡ leaves width (xs ++ (x ∷ [])))
  -- the same of the answer itself, and all of them leave the window after it
  pub told : (width : ℕ) (xs : List ℤ) → Leaves width xs w → answer ≡ figures_of (last_of width (xs ++ (x ∷ [])))
  pub left : (width : ℕ) (xs : List ℤ) → Leaves width xs w → Leaves width (xs ++ (x ∷ [])) after
  -- 8 if no list of readings leaves it
  pub refusal : (Left w → ⊥) → told_result answer ≡ refused state_unsound
  -- and only then; as it was
  pub as_it_was : (why : Refusal) → told_result answer ≡ refused why → (after ≡ w) × (Left w → ⊥)
  -- it is the call that Moving of wing_meters' specs/ speaks of
  pub same : taken answer after ≡ reading_of w x

-- the figures of a window
pub record FiguresCall (w : Window) (answer : Result (Option Figures)) : Type 0 where
  -- whatever readings left it: the figures worked out afresh from the last of them, none of no readings
  pub afresh : (width : ℕ) (xs : List ℤ) → Leaves width xs w → told_result answer ≡ told_result (figures_of (last_of width xs))
  -- the same of the answer itself
  pub told : (width : ℕ) (xs : List ℤ) → Leaves width xs w → answer ≡ figures_of (last_of width xs)
  -- 8 if no list of readings leaves it
  pub refusal : (Left w → ⊥) → told_result answer ≡ refused state_unsound
  -- and only then
  pub only : (why : Refusal) → told_result answer ≡ refused why → Left w → ⊥
  -- it is the call that Moving of wing_meters' specs/ speaks of
  pub same : answer ≡ figures_answer w

-- many readings that go into a window, one after the other. Their type has 16 bits, which what is said of their figures needs
pub record ReadingsCall (w : Window) (xs out : List ℤ) (answer : Result ℕ) (after : Window) (laid : List ℤ) : Type 0 where
  -- whatever readings left the window: 9; else a row for each, of the figures worked out afresh from the last readings so far
  pub answered : Readings xs → (width : ℕ) (before : List ℤ) → Leaves width before w →
      Answers (rows_lines xs out) (afresh_rows width before xs) (rows_result answer laid) ((laid ≡ out) × (after ≡ w))
  -- a row for each reading, and the window that all of them leave
  pub taken : Readings xs → (width : ℕ) (before : List ℤ) → Leaves width before w → (n : ℕ) → answer ≡ Ok n →
      (n ≡ length xs) × (after ≡ leaves width (before ++ xs))
  -- all of them leave the window after it
  pub left : Readings xs → (width : ℕ) (before : List ℤ) → Leaves width before w → (n : ℕ) → answer ≡ Ok n → Leaves width (before ++ xs) after
  -- row by row: the figures, how many, sum, quotient, remainder and largest, of the last of all readings up to that one, those before the call included
  pub each : Readings xs → (width : ℕ) (before : List ℤ) → Leaves width before w → (n : ℕ) → answer ≡ Ok n → (k : ℕ) → k < length xs → (f : Figures) →
      figures_of (last_of width (before ++ take (k + 1) xs)) ≡ Ok (Some f) → take 5 (drop (5 * k) laid) ≡ pos f.held ∷ f.sum ∷ f.mean ∷ pos f.rest ∷ f.top ∷ []
  -- 9 whatever the readings are
  pub short : Left w → length out < 5 * length xs → rows_result answer laid ≡ refused output_short
  -- the output past the rows as it was
  pub past : (n : ℕ) → answer ≡ Ok n → drop (5 * n) laid ≡ drop (5 * n) out
  -- 8 if no list of readings leaves it
  pub refusal : (Left w → ⊥) → rows_result answer laid ≡ refused state_unsound
  -- sent back, it leaves the output and the window as they were
  pub as_it_was : (why : Refusal) → rows_result answer laid ≡ refused why → (laid ≡ out) × (after ≡ w)
  -- it is the call that Calls of wing_meters' specs/ defines
  pub same : rows_effect (followed answer after) laid ≡ readings_of w xs out
