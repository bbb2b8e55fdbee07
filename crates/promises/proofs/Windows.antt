-- What is promised of a window over a strip's last readings, as specs/Meters states it.
use Prim.Native.Nat.{ℕ, zero, suc, ◌+◌, ◌*◌, ◌<◌}
use mathlib.Core.Bool.{Bool, true, false}
use mathlib.Core.Path.{◌≡◌, refl, sym, ap, ◌∙◌, subst}
use mathlib.Core.List.{List, [], ◌∷◌, ◌++◌, append_assoc, append-nil}
use native.Mathlib.Omega.{arith}
use native.Mathlib.Numerals.{add-one}
use borrow.Author.Tests.{le-ltb, ltb-false}
use lib.Dec.{ltb}
use lib.IntN.{ℤ}
use lib.ListN.{length, take, drop}
use lib.Seq.{take_at, drop_at, drop-drop}
use Rattle.wing_node.specs.Bool.{if}
use Rattle.wing_node.specs.Signed.{InBits}
use Rattle.wing_node.specs.declared.refusal.Refusal.{Refusal}
use Rattle.wing_node.specs.Result.{Result, ok, refused}
use Rattle.wing_node.proofs.Branches.{branch}
use Rattle.wing_meters.specs.Afresh.{last_of, figures_of}
use Rattle.wing_meters.specs.Window.{fresh_window, taking, leaves, kept_in, sound_window}
use Rattle.wing_meters.specs.Kept.{figures_kept}
use Rattle.wing_meters.specs.Calls.{made_of, figures_answer, reading_of, after_all, answers, row_of, row_told, rows, RowsEffect, rows_effect, followed, readings_of}
use Rattle.wing_meters.specs.Moving.{Readings, no_readings, reading_then, Width, Leaves, Left, Typed, afresh_rows}
use Rattle.wing_meters.specs.Answers.{none, some, told_result, rows_result}
use Rattle.wing_meters.specs.declared.window.Window.{Window}
use Rattle.wing_meters.specs.declared.reading.Taken.{Taken}
use Rattle.wing_meters.proofs.Follows.{size-taking, reading-sound, reading-unsound, told-taking, rows_on, length-rows, readings-unsound, readings-short, readings-sound}
use Rattle.wing_meters.proofs.Moves.{left-sound, leaves-more, reading-left, figures-left, rows_left, after-left, never-left, unleft}
use Rattle.promises.specs.Refusals.{output_short, width_wrong}
use Rattle.promises.specs.Lines.{Answers, by, ◌gives◌}
use Rattle.promises.specs.Meters.{rows_lines, MakeCall, ReadingCall, FiguresCall, ReadingsCall}
use Rattle.promises.proofs.Lines.{given, taken as none-applies, line}
use Rattle.std.specs.Prelude.{Err, Ok, is_ok}
use Rattle.wing_node.specs.declared.refusal.Refusal.TheVariants.{OutputShort, StateUnsound, WidthWrong}

-- ---- a window made

not_made : false ≡ true → ⊥
not_made e = let z : ◌≡◌ {A = ℕ} 0 1 = cc in omega arith

pub make_call : (width : ℕ) → MakeCall width (made_of width)
unfolding made_of by
make_call width =
    record {
      answered = answered (ltb width 1) (ltb 256 width);
      wide =
          branch (λ (x : Result Window). is_ok x ≡ true → Width width) (ltb width 1) _ _ (λ _ e. absurd (not_made e))
          (λ a. branch (λ (x : Result Window). is_ok x ≡ true → Width width) (ltb 256 width) _ _ (λ _ e. absurd (not_made e)) (λ b _. record { some = ltb-false width 1 a; few = ltb-false 256 width b }));
      left = λ v w e. subst (Leaves width []) (made-is (ltb width 1) (ltb 256 width) (le-ltb width 1 v.some) (le-ltb 256 width v.few) w e) (record { wide = v; readings = no_readings; left = refl });
      same = refl;
    }
  where
    window_or : Window → Result Window → Window
    window_or other (Ok w) = w
    window_or other (Err why) = other

    made-is : (a b : Bool) → a ≡ false → b ≡ false → (w : Window) → if {A = Result Window} a (Err WidthWrong) (if b (Err WidthWrong) (Ok (fresh_window width))) ≡ ok w → fresh_window width ≡ w
    made-is false false p q w e = ap (window_or (fresh_window width)) e
    made-is true b p q w e = absurd (not_made (sym p))
    made-is false true p q w e = absurd (not_made (sym q))

    answered : (a b : Bool) → if {A = Result Window} a (Err WidthWrong) (if b (Err WidthWrong) (Ok (fresh_window width))) ≡ by ((a gives width_wrong) ∷ (b gives width_wrong) ∷ []) (fresh_window width)
    answered true b = refl
    answered false true = refl
    answered false false = refl

-- ---- a reading, and the figures

-- figures are no refusal
shown : (xs : List ℤ) (why : Refusal) → told_result (figures_of xs) ≡ refused why → ⊥
unfolding figures_of
shown [] why e = given none why e
shown (x ∷ xs) why e = given (some _) why e

pub reading_call : (w : Window) (x : ℤ) → Typed w → InBits 15 x → ReadingCall w x (reading_of w x).answer (reading_of w x).window
reading_call w x t b =
    record {
      afresh =
          λ width xs l.
          let e = reading-left width xs w l x b in (ap (λ (r : Taken). told_result r.answer) e, ap (λ (r : Taken). r.window) e);
      told = λ width xs l. ap (λ (r : Taken). r.answer) (reading-left width xs w l x b);
      left =
          λ width xs l.
          let e = reading-left width xs w l x b in
          let more = leaves-more width xs w l x b in
          record { wide = more.wide; readings = more.readings; left = sym (ap (λ (r : Taken). r.window) e) };
      refusal = λ never. ap (λ (r : Taken). told_result r.answer) (reading-unsound w x (unleft w t never));
      as_it_was = λ why e. go (sound_window w) refl why e;
      same = refl;
    }
  where
    go : (s : Bool) → sound_window w ≡ s → (why : Refusal) → told_result (reading_of w x).answer ≡ refused why → ((reading_of w x).window ≡ w) × (Left w → ⊥)
    go true s why e = absurd (shown (kept_in (taking w x)) why (ap (λ (r : Taken). told_result r.answer) (sym (reading-sound w x s)) ∙ e))
    go false s why e = (ap (λ (r : Taken). r.window) (reading-unsound w x s), never-left w s)

figures-sound : (w : Window) → sound_window w ≡ true → figures_answer w ≡ figures_of (kept_in w)
unfolding figures_answer
figures-sound w e = simp e

figures-unsound : (w : Window) → sound_window w ≡ false → figures_answer w ≡ Err StateUnsound
unfolding figures_answer
figures-unsound w e = simp e

pub figures_call : (w : Window) → Typed w → FiguresCall w (figures_answer w)
figures_call w t =
    record {
      afresh = λ width xs l. ap told_result (figures-left width xs w l);
      told = λ width xs l. figures-left width xs w l;
      refusal = λ never. ap told_result (figures-unsound w (unleft w t never));
      only = λ why e. go (sound_window w) refl why e;
      same = refl;
    }
  where
    go : (s : Bool) → sound_window w ≡ s → (why : Refusal) → told_result (figures_answer w) ≡ refused why → Left w → ⊥
    go true s why e = absurd (shown (kept_in w) why (ap told_result (sym (figures-sound w s)) ∙ e))
    go false s why e = never-left w s

-- ---- many readings

-- all of them leave a window that readings leave
leaves_all : (width : ℕ) (before : List ℤ) (w : Window) (xs : List ℤ) → Leaves width before w → Readings xs → Leaves width (before ++ xs) (leaves width (before ++ xs))
leaves_all width before w [] l r = record { wide = l.wide; readings = rw (append-nil before) l.readings; left = refl }
leaves_all width before w (x ∷ xs) l (reading_then b r) =
    subst (λ (ys : List ℤ). Leaves width ys (leaves width ys)) (append_assoc before (x ∷ []) xs)
    (leaves_all width (before ++ (x ∷ [])) (taking w x) xs (leaves-more width before w l x b) r)

-- the first row is that of the first reading, and the others come after it
module _ (width : ℕ) (before : List ℤ) (w : Window) (l : Leaves width before w) (size : length w.levels ≡ 256) (x : ℤ) (b : InBits 15 x) where
  row : List ℤ
  row = row_told (figures_of (last_of width (before ++ (x ∷ []))))

  sound : sound_window w ≡ true
  sound = left-sound w (record { width = width; list = before; by = l })

  first-row : row ≡ row_of (figures_kept (taking w x).control)
  unfolding row row_told
  first-row = ap (λ (t : Taken). row_told t.answer) (sym (reading-left width before w l x b) ∙ reading-sound w x sound) ∙ ap row_told (told-taking w x sound size)

  module _ (xs rest : List ℤ) where
    laid-rows : rows (answers w (x ∷ xs)) ++ rest ≡ row_of (figures_kept (taking w x).control) ++ (rows (answers (taking w x) xs) ++ rest)
    laid-rows = ap (λ (l : List ℤ). l ++ rest) (rows_on w x sound size xs) ∙ append_assoc (row_of (figures_kept (taking w x).control)) (rows (answers (taking w x) xs)) rest

    row_first : take 5 (rows (answers w (x ∷ xs)) ++ rest) ≡ row
    unfolding row_of
    row_first = ap (take 5) laid-rows ∙ sym first-row

    rows-after : drop 5 (rows (answers w (x ∷ xs)) ++ rest) ≡ rows (answers (taking w x) xs) ++ rest
    unfolding row_of
    rows-after = ap (drop 5) laid-rows

-- the row of each
row_at : (width : ℕ) (before : List ℤ) (w : Window) (xs rest : List ℤ) (k : ℕ) → length w.levels ≡ 256 → Leaves width before w → Readings xs → k < length xs →
    take 5 (drop (5 * k) (rows (answers w xs) ++ rest)) ≡ row_told (figures_of (last_of width (before ++ take (suc k) xs)))
row_at width before w [] rest k size l r h = absurd (omega arith)
row_at width before w (x ∷ xs) rest zero size l (reading_then b r) h = unfold row in row_first width before w l size x b xs rest
row_at width before w (x ∷ xs) rest (suc k) size l (reading_then b r) h =
    let e : 5 * suc k ≡ 5 + 5 * k = omega arith in
    ap (λ (n : ℕ). take 5 (drop n (rows (answers w (x ∷ xs)) ++ rest))) e
    ∙ ap (take 5) (sym (drop-drop (5 * k) 5 (rows (answers w (x ∷ xs)) ++ rest)) ∙ ap (drop (5 * k)) (rows-after width before w l size x b xs rest))
    ∙ row_at width (before ++ (x ∷ [])) (taking w x) xs rest k (size-taking w x size) (leaves-more width before w l x b) r (omega arith)
    ∙ ap (λ (ys : List ℤ). row_told (figures_of (last_of width ys))) (append_assoc before (x ∷ []) (take (suc k) xs))

-- what a call with many readings came to
abbrev came : RowsEffect → Result (List ℤ)
came x = rows_result x.reply.answer x.out

-- and all is as it was
abbrev Kept : Window → List ℤ → RowsEffect → Type 0
Kept w out x = (x.out ≡ out) × (x.reply.window ≡ w)

module _ (w : Window) (xs out : List ℤ) where
  short : RowsEffect
  short = rows_effect (followed (Err OutputShort) w) out

  whole : RowsEffect
  whole = rows_effect (followed (Ok (length xs)) (after_all w xs)) (rows (answers w xs) ++ drop (5 * length xs) out)

  -- an answer with rows is of the call that was taken
  Laid : RowsEffect → Type 0
  Laid x = (n : ℕ) → x.reply.answer ≡ Ok n → (n ≡ length xs) × (x.reply.window ≡ after_all w xs) × (drop (5 * n) x.out ≡ drop (5 * n) out) × (x.out ≡ rows (answers w xs) ++ drop (5 * length xs) out)

  nothing-laid : (k : Refusal) (v : Window) (o : List ℤ) → Laid (rows_effect (followed (Err k) v) o)
  unfolding Laid
  nothing-laid k v o n e = absurd (let z : ◌≡◌ {A = ℕ} 0 1 = cc in omega arith)

  module _ (t : Typed w) where
    all_laid : sound_window w ≡ true → Laid whole
    unfolding Laid whole
    all_laid s n e =
        let z : length xs ≡ n = cc in (
          sym z,
          refl,
          subst (λ (m : ℕ). drop (5 * m) (rows (answers w xs) ++ drop (5 * length xs) out) ≡ drop (5 * m) out) z
              (drop_at (rows (answers w xs)) (drop (5 * length xs) out) (5 * length xs) (length-rows w xs s t.size)),
          refl,
        )

    rows-laid : Laid (readings_of w xs out)
    unfolding short whole
    rows-laid = go (sound_window w) refl
      where
        go : (s : Bool) → sound_window w ≡ s → Laid (readings_of w xs out)
        go true s =
            subst Laid (sym (readings-sound w xs out s))
            (branch Laid (ltb (length out) (5 * length xs)) _ _ (λ _. nothing-laid OutputShort w out) (λ _. all_laid s))
        go false s = subst Laid (sym (readings-unsound w xs out s)) (nothing-laid StateUnsound w out)

    -- sent back, all is as it was
    Refused-kept : RowsEffect → Type 0
    Refused-kept x = (why : Refusal) → came x ≡ refused why → Kept w out x

    kept-refused : Refused-kept (readings_of w xs out)
    unfolding Refused-kept short whole
    kept-refused = go (sound_window w) refl
      where
        go : (s : Bool) → sound_window w ≡ s → Refused-kept (readings_of w xs out)
        go true s =
            subst Refused-kept (sym (readings-sound w xs out s))
            (branch Refused-kept (ltb (length out) (5 * length xs)) _ _ (λ _ why e. (refl, refl)) (λ _ why e. absurd (given _ why e)))
        go false s = subst Refused-kept (sym (readings-unsound w xs out s)) (λ why e. (refl, refl))

    given-rows : (width : ℕ) (before : List ℤ) → Leaves width before w → Readings xs → came whole ≡ ok (afresh_rows width before xs)
    unfolding whole
    given-rows width before l r =
        let s = left-sound w (record { width = width; list = before; by = l }) in
        ap ok
        (take_at (rows (answers w xs)) (drop (5 * length xs) out) (5 * length xs) (length-rows w xs s t.size) ∙ rows_left width before w xs l r)

    lines-apply : (width : ℕ) (before : List ℤ) → Leaves width before w → Readings xs →
        Answers (rows_lines xs out) (afresh_rows width before xs) (came (readings_of w xs out)) (Kept w out (readings_of w xs out))
    unfolding short whole
    lines-apply width before l r =
        let s = left-sound w (record { width = width; list = before; by = l }) in
        subst (λ (x : RowsEffect). Answers (rows_lines xs out) (afresh_rows width before xs) (came x) (Kept w out x)) (sym (readings-sound w xs out s))
        (line came (Kept w out) (afresh_rows width before xs) (ltb (length out) (5 * length xs)) output_short [] short whole refl (refl, refl)
        (none-applies came (Kept w out) (afresh_rows width before xs) whole (given-rows width before l r)))

    pub readings_call : ReadingsCall w xs out (readings_of w xs out).reply.answer (readings_of w xs out).reply.window (readings_of w xs out).out
    unfolding Laid Refused-kept row_told row_of
    readings_call =
        record {
          answered = λ r width before l. lines-apply width before l r;
          taken = λ r width before l n e. let a = rows-laid n e in (a.0, a.1 ∙ after-left width before w xs l r);
          left =
              λ r width before l n e.
              let a = rows-laid n e in
              let all = leaves_all width before w xs l r in
              record { wide = all.wide; readings = all.readings; left = sym (a.1 ∙ after-left width before w xs l r) };
          each =
              λ r width before l n e k h f q.
              ap (λ (o : List ℤ). take 5 (drop (5 * k) o)) (rows-laid n e).3 ∙ row_at width before w xs (drop (5 * length xs) out) k t.size l r h
              ∙ ap (λ (m : ℕ). row_told (figures_of (last_of width (before ++ take m xs)))) (sym (add-one k)) ∙ ap row_told q;
          short = λ l h. ap came (readings-short w xs out (left-sound w l) h);
          past = λ n e. (rows-laid n e).2;
          refusal = λ never. ap came (readings-unsound w xs out (unleft w t never));
          as_it_was = kept-refused;
          same = refl;
        }
