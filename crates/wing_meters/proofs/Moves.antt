-- What specs/Moving states.
use Prim.Native.Nat.{ℕ, zero, suc, ◌+◌, ◌-◌}
use mathlib.Core.Bool.{Bool, true, false, true≢false}
use mathlib.Core.Path.{◌≡◌, refl, sym, ap, ◌∙◌, subst}
use mathlib.Core.List.{List, [], ◌∷◌, ◌++◌, foldl-append}
use native.Mathlib.Omega.{arith}
use native.Mathlib.Numerals.{add-one}
use lib.IntN.{ℤ}
use lib.ListN.{length, take, take-append-drop, length-drop}
use Rattle.wing_node.specs.Signed.{InBits}
use Rattle.wing_meters.specs.Afresh.{last_of, figures_of}
use Rattle.wing_meters.specs.Window.{fresh_window, taking, leaves, kept_in, sound_window}
use Rattle.wing_meters.specs.Calls.{figures_answer, taken, reading_of, after_all, answers, row_told, rows}
use Rattle.wing_meters.specs.Moving.{Readings, no_readings, reading_then, Width, Last, Leaves, Left, Typed, afresh_rows, Along, Moving}
use Rattle.wing_meters.specs.declared.window.Window.{Window}
use Rattle.wing_meters.proofs.Soundness.{is-sound}
use Rattle.wing_meters.proofs.Follows.{reading-sound}
use Rattle.wing_meters.proofs.Divided.{figures-say, figures-none}
use Rattle.wing_meters.proofs.Left.{fresh-sound, fresh-size, fresh_kept, Ran, ran, after-ran, answered, answers-count}
use Rattle.wing_meters.proofs.Reached.{reached}

front-readings : (n : ℕ) {xs : List ℤ} → Readings xs → Readings (take n xs)
front-readings zero r = no_readings
front-readings (suc n) no_readings = no_readings
front-readings (suc n) (reading_then b r) = reading_then b (front-readings n r)

module _ (width : ℕ) (v : Width width) where
  fresh : sound_window (fresh_window width) ≡ true
  fresh = is-sound (fresh_window width) (fresh-sound width v)

  pub left-ran : (xs : List ℤ) → Readings xs → Ran (fresh_window width) xs
  left-ran xs r = ran (fresh_window width) xs fresh (fresh-size width) r

  -- what a list of readings leaves holds the last of them
  pub left-kept : (xs : List ℤ) → Readings xs → kept_in (leaves width xs) ≡ last_of width xs
  left-kept xs r = (left-ran xs r).kept ∙ ap (λ (l : List ℤ). last_of width (l ++ xs)) (fresh_kept width)

  pub left-figures : (xs : List ℤ) → Readings xs → figures_answer (leaves width xs) ≡ figures_of (last_of width xs)
  unfolding figures_answer
  left-figures xs r = simp (left-ran xs r).sound (ap figures_of (left-kept xs r))

  along : (xs : List ℤ) → Readings xs → Along width xs
  along xs r =
      record {
        count = answers-count (fresh_window width) xs;
        told =
            λ k h.
            answered (fresh_window width) xs k fresh (fresh-size width) h ∙
            (ap (λ (n : ℕ). figures_of (kept_in (leaves width (take n xs)))) (sym (add-one k)) ∙
            ap figures_of (left-kept (take (k + 1) xs) (front-readings (k + 1) r)));
        figures = ap figures_answer (after-ran (fresh_window width) xs fresh (fresh-size width)) ∙ left-figures xs r;
        after = after-ran (fresh_window width) xs fresh (fresh-size width);
      }

pub left-sound : (w : Window) → Left w → sound_window w ≡ true
left-sound w l = subst (λ (v : Window). sound_window v ≡ true) l.by.left (left-ran l.width l.by.wide l.list l.by.readings).sound

-- ---- calls on a window that some readings left

readings-join : {xs ys : List ℤ} → Readings xs → Readings ys → Readings (xs ++ ys)
readings-join no_readings s = s
readings-join (reading_then b r) s = reading_then b (readings-join r s)

-- one more reading
taking-left : (width : ℕ) (xs : List ℤ) (x : ℤ) → taking (leaves width xs) x ≡ leaves width (xs ++ (x ∷ []))
taking-left width xs x = sym (foldl-append taking (fresh_window width) xs (x ∷ []))

module _ (width : ℕ) (xs : List ℤ) (w : Window) (l : Leaves width xs w) where
  is-left : Left w
  is-left = record { width = width; list = xs; by = l }

  pub leaves-more : (x : ℤ) → InBits 15 x → Leaves width (xs ++ (x ∷ [])) (taking w x)
  leaves-more x b =
      record {
        wide = l.wide;
        readings = readings-join l.readings (reading_then b no_readings);
        left = sym (taking-left width xs x) ∙ ap (λ (v : Window). taking v x) l.left;
      }

  -- 02: a reading is answered with the figures of the last readings
  pub reading-left : (x : ℤ) → InBits 15 x → reading_of w x ≡ taken (figures_of (last_of width (xs ++ (x ∷ [])))) (leaves width (xs ++ (x ∷ [])))
  reading-left x b =
      let more = leaves-more x b in
      let kept : kept_in (taking w x) ≡ last_of width (xs ++ (x ∷ [])) = ap kept_in (sym more.left) ∙ left-kept width l.wide (xs ++ (x ∷ [])) more.readings in
      reading-sound w x (left-sound w is-left) ∙
      (ap (λ (ys : List ℤ). taken (figures_of ys) (taking w x)) kept ∙
      ap (taken (figures_of (last_of width (xs ++ (x ∷ []))))) (sym more.left))

  pub figures-left : figures_answer w ≡ figures_of (last_of width xs)
  figures-left = ap figures_answer (sym l.left) ∙ left-figures width l.wide xs l.readings

-- many readings
pub rows_left : (width : ℕ) (before : List ℤ) (w : Window) (xs : List ℤ) → Leaves width before w → Readings xs → rows (answers w xs) ≡ afresh_rows width before xs
unfolding answers rows afresh_rows
rows_left width before w [] l r = refl
rows_left width before w (x ∷ xs) l (reading_then b r) =
    let more = leaves-more width before w l x b in
    rw (reading-left width before w l x b)
    (ap (λ (t : List ℤ). row_told (figures_of (last_of width (before ++ (x ∷ [])))) ++ t)
    (rows_left width (before ++ (x ∷ [])) (leaves width (before ++ (x ∷ []))) xs (record { wide = more.wide; readings = more.readings; left = refl }) r))

pub after-left : (width : ℕ) (before : List ℤ) (w : Window) (xs : List ℤ) → Leaves width before w → Readings xs → after_all w xs ≡ leaves width (before ++ xs)
after-left width before w xs l r =
    let ran = left-ran width l.wide before l.readings in
    ap (λ (v : Window). after_all v xs) (sym l.left) ∙
    (after-ran (leaves width before) xs ran.sound ran.size ∙ sym (foldl-append taking (fresh_window width) before xs))

-- ---- which windows are refused

pub never-left : (w : Window) → sound_window w ≡ false → Left w → ⊥
never-left w e l = true≢false (sym (left-sound w l) ∙ e)

pub unleft : (w : Window) → Typed w → (Left w → ⊥) → sound_window w ≡ false
unleft w t never = go (sound_window w) refl
  where
    go : (b : Bool) → sound_window w ≡ b → b ≡ false
    go true e = absurd (never (reached w e t))
    go false e = refl

-- the last readings of a list are its end
last-in : (width : ℕ) (xs : List ℤ) → Last width xs (last_of width xs)
last-in width xs =
    record {
      before = take (length xs - width) xs;
      joined = take-append-drop (length xs - width) xs;
      count = length-drop (length xs - width) xs ∙ omega arith;
    }

pub moving : Moving
moving =
    record {
      along = λ width xs v r. along width v xs r;
      last = last-in;
      says = figures-say;
      none = figures-none;
      taken = λ w t e. reached w e t;
      left = left-sound;
    }
