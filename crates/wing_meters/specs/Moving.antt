-- What holds of a window for every list of readings (02, Job 6).
use Rattle.std.specs.Prelude.{ℕ, ◌+◌, ◌≤◌, ◌<◌, ◌^◌, min, true, ◌≡◌, ℤ, pos, ◌+ℤ◌, ◌*ℤ◌, length, take, get_or, ◌≤ℤ◌, Ok, Some, None}
use mathlib.Core.List.{List, [], ◌∷◌, ◌++◌, Memᴰ}
use Rattle.wing_node.specs.Signed.{InBits}
use Rattle.wing_meters.specs.Afresh.{last_of, total, figures_of}
use Rattle.wing_meters.specs.Window.{fresh_window, leaves, sound_window}
use Rattle.wing_meters.specs.Calls.{figures_answer, after_all, answers, row_told}
use Rattle.wing_meters.specs.declared.figures.Figures.{Figures}
use Rattle.wing_meters.specs.declared.window.Window.{Window}

-- 01: readings are signed 16-bit numbers
pub data Readings : List ℤ → Type 0 where
  no_readings : Readings []
  reading_then : {x : ℤ} {xs : List ℤ} → InBits 15 x → Readings xs → Readings (x ∷ xs)

-- 02: a width from 1 to 256
pub record Width (width : ℕ) : Type 0 where
  pub some : 1 ≤ width
  pub few : width ≤ 256

-- 02: the figures of readings, in words: how many; the sum; the sum is the quotient times that number plus the remainder, which is from 0 to number − 1, so that
-- the quotient is rounded down; the largest is one of them, and none is above it
pub record Say (xs : List ℤ) (f : Figures) : Type 0 where
  pub held : f.held ≡ length xs
  pub sum : f.sum ≡ total xs
  pub divided : f.sum ≡ f.mean *ℤ pos f.held +ℤ pos f.rest
  pub rest : f.rest < f.held
  pub top : Memᴰ f.top xs
  pub above : (x : ℤ) → Memᴰ x xs → x ≤ℤ f.top

-- 02: the last readings of a list, in words: it ends with them, and they are as many as the width, or all where it has fewer
pub record Last (width : ℕ) (xs ys : List ℤ) : Type 0 where
  pub before : List ℤ
  pub joined : before ++ ys ≡ xs
  pub count : length ys ≡ min width (length xs)

-- these readings leave that window in one of this width
pub record Leaves (width : ℕ) (xs : List ℤ) (w : Window) : Type 0 where
  pub wide : Width width
  pub readings : Readings xs
  pub left : leaves width xs ≡ w

-- some list of readings leaves that window
pub record Left (w : Window) : Type 0 where
  pub width : ℕ
  pub list : List ℤ
  pub by : Leaves width list w

-- a row for each of some readings that come after others: the figures worked out afresh from the last readings so far
unfoldable pub afresh_rows : ℕ → List ℤ → List ℤ → List ℤ
afresh_rows width before [] = []
afresh_rows width before (x ∷ xs) =
    let so_far = before ++ (x ∷ []) in row_told (figures_of (last_of width so_far)) ++ afresh_rows width so_far xs

-- what the types of the code say of a window
pub record Typed (w : Window) : Type 0 where
  pub size : length w.levels ≡ 256
  pub levels : (k : ℕ) → get_or w.levels k 0 < 2 ^ 16

-- reading calls one after the other on a fresh window of this width
pub record Along (width : ℕ) (xs : List ℤ) : Type 0 where
  -- each is answered
  pub count : length (answers (fresh_window width) xs) ≡ length xs
  -- 02: at each reading the figures are those worked out afresh from the last readings of the list so far
  pub told : (k : ℕ) → k < length xs → get_or (answers (fresh_window width) xs) k (Ok None) ≡ figures_of (last_of width (take (k + 1) xs))
  -- and so are the figures that are asked for after them; none of no readings
  pub figures : figures_answer (after_all (fresh_window width) xs) ≡ figures_of (last_of width xs)
  -- the calls leave what the list leaves
  pub after : after_all (fresh_window width) xs ≡ leaves width xs

-- 02, Job 6, whole
pub record Moving : Type 0 where
  -- for every width and every list of readings
  pub along : (width : ℕ) (xs : List ℤ) → Width width → Readings xs → Along width xs
  -- which readings are the last
  pub last : (width : ℕ) (xs : List ℤ) → Last width xs (last_of width xs)
  -- what the figures say
  pub says : (xs : List ℤ) (f : Figures) → figures_of xs ≡ Ok (Some f) → Say xs f
  -- and when there are none
  pub none : (xs : List ℤ) → figures_of xs ≡ (Ok None) → xs ≡ []
  -- a state is taken exactly when some list of readings leaves it
  pub taken : (w : Window) → Typed w → sound_window w ≡ true → Left w
  pub left : (w : Window) → Left w → sound_window w ≡ true
