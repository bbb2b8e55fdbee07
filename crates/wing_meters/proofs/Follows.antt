-- Readings one after the other: the window after them, each answer, and the rows of figures laid into an output.
use Prim.Native.Nat.{ℕ, suc, ◌+◌, ◌-◌, ◌*◌, ◌≤◌, ◌<◌}
use mathlib.Core.Bool.{true, false}
use mathlib.Core.Logic.{⊎_elim}
use mathlib.Core.Path.{◌≡◌, refl, sym, ap, ◌∙◌}
use mathlib.Core.List.{List, [], ◌∷◌, ◌++◌, append_assoc, append-nil}
use native.Mathlib.Omega.{arith}
use native.Mathlib.Numerals.{add-one}
use lib.Dec.{ltb}
use lib.IntN.{ℤ, pos}
use lib.ListN.{length, take, drop, get_or, length-append, length-set, take-append-drop, drop_of_length-le}
use lib.Seq.{drop-cons, sets, sets-eq, length-sets, length-take-le, take_at, drop_at, drop-drop, take_all}
use borrow.Rule.Slice.PartMut.{put_mid}
use Rattle.std.proofs.lemmas.Slice.{put_mid-paste}
use borrow.Author.Tests.{lt-ltb, le-ltb, ne_eqb}
use Rattle.wing_node.specs.Bool.{if}
use Rattle.wing_meters.specs.Afresh.{figures_of}
use Rattle.wing_meters.specs.Window.{taking, kept_in, sound_window}
use Rattle.wing_meters.specs.Kept.{figures_kept, told_kept}
use Rattle.wing_meters.specs.Calls.{taken, reading_of, after_all, answers, row_of, row_told, rows, rows_effect, followed, readings_of}
use Rattle.wing_meters.specs.declared.figures.Figures.{Figures}
use Rattle.wing_meters.specs.declared.window.Window.{Window}
use Rattle.wing_meters.proofs.Rings.{grown-below, grown-full}
use Rattle.wing_meters.proofs.Soundness.{sound, is-sound}
use Rattle.wing_meters.proofs.Windows.{kept-told, sound-taking}
use Rattle.std.specs.Prelude.{Ok, Some, Err}
use Rattle.wing_node.specs.declared.refusal.Refusal.TheVariants.{OutputShort, StateUnsound}

pub size-taking : (w : Window) (x : ℤ) → length w.levels ≡ 256 → length (taking w x).levels ≡ 256
unfolding taking
size-taking w x e = length-set w.levels w.control.next _ ∙ e

pub reading-sound : (w : Window) (x : ℤ) → sound_window w ≡ true → reading_of w x ≡ taken (figures_of (kept_in (taking w x))) (taking w x)
unfolding reading_of
reading-sound w x e = simp e

pub reading-unsound : (w : Window) (x : ℤ) → sound_window w ≡ false → reading_of w x ≡ taken (Err StateUnsound) w
unfolding reading_of
reading-unsound w x e = simp e

module _ (w : Window) (x : ℤ) (e : sound_window w ≡ true) (size : length w.levels ≡ 256) where
  pub still-sound : sound_window (taking w x) ≡ true
  still-sound = is-sound (taking w x) (sound-taking w (sound w e) size x)

  -- a window with a reading in it holds one at least
  pub holds-one : 1 ≤ (taking w x).control.held
  unfolding taking
  holds-one =
      let s = sound w e in
      ⊎_elim
      (λ u. omega (arith, grown-below w.control.width w.control.held w.control.next s.placed.some u.0))
      (λ f. omega (arith, grown-full w.control.width w.control.held w.control.next s.placed.some f.0, f.0, s.placed.some))
      s.placed.place

  -- what is told of it is what is kept up
  pub told-taking : figures_of (kept_in (taking w x)) ≡ Ok (Some (figures_kept (taking w x).control))
  unfolding told_kept
  told-taking =
      kept-told (taking w x) (sound-taking w (sound w e) size x) (size-taking w x size) ∙ simp (ne_eqb (taking w x).control.held 0 (λ z. omega (arith, holds-one)))

  pub after_on : (xs : List ℤ) → after_all w (x ∷ xs) ≡ after_all (taking w x) xs
  unfolding after_all
  after_on xs = rw (reading-sound w x e)

  pub rows_on : (xs : List ℤ) → rows (answers w (x ∷ xs)) ≡ row_of (figures_kept (taking w x).control) ++ rows (answers (taking w x) xs)
  unfolding answers rows row_told
  rows_on xs = rw (reading-sound w x e, told-taking)

-- five numbers for each reading
pub length-row : (f : Figures) → length (row_of f) ≡ 5
unfolding row_of
length-row f = refl

pub length-rows : (w : Window) (xs : List ℤ) → sound_window w ≡ true → length w.levels ≡ 256 → length (rows (answers w xs)) ≡ 5 * length xs
unfolding answers rows
length-rows w [] e size = refl
length-rows w (x ∷ xs) e size =
    let row = row_of (figures_kept (taking w x).control) in
    ap length (rows_on w x e size xs) ∙
    (length-append row (rows (answers (taking w x) xs)) ∙
    omega (arith, length-row (figures_kept (taking w x).control), length-rows (taking w x) xs (still-sound w x e size) (size-taking w x size)))

-- ---- one row more in the output

module _ (out row : List ℤ) (i : ℕ) (five : length row ≡ 5) (room : 5 * i + 5 ≤ length out) where
  laid : sets out (5 * i) row ≡ take (5 * i) out ++ (row ++ drop (5 * i + 5) out)
  laid =
      sets-eq row out (5 * i) (omega arith) ∙
      (ap (λ (n : ℕ). take (5 * i) out ++ row ++ drop (5 * i + n) out) five ∙ append_assoc (take (5 * i) out) row (drop (5 * i + 5) out))

  front : length (take (5 * i) out ++ row) ≡ 5 * (i + 1)
  front = length-append (take (5 * i) out) row ∙ omega (arith, length-take-le (5 * i) out (omega arith))

  pub row-front : take (5 * (i + 1)) (sets out (5 * i) row) ≡ take (5 * i) out ++ row
  row-front =
      ap (take (5 * (i + 1))) (laid ∙ sym (append_assoc (take (5 * i) out) row (drop (5 * i + 5) out))) ∙
      take_at (take (5 * i) out ++ row) (drop (5 * i + 5) out) (5 * (i + 1)) front

  pub row-rest : drop (5 * (i + 1)) (sets out (5 * i) row) ≡ drop 5 (drop (5 * i) out)
  row-rest =
      ap (drop (5 * (i + 1))) (laid ∙ sym (append_assoc (take (5 * i) out) row (drop (5 * i + 5) out))) ∙
      (drop_at (take (5 * i) out ++ row) (drop (5 * i + 5) out) (5 * (i + 1)) front ∙ sym (drop-drop 5 (5 * i) out))

pub rest-on : (out : List ℤ) (i : ℕ) → drop 5 (drop (5 * i) out) ≡ drop (5 * (i + 1)) out
rest-on out i = let e : 5 * i + 5 ≡ 5 * (i + 1) = omega arith in drop-drop 5 (5 * i) out ∙ ap (λ (n : ℕ). drop n out) e

-- a row copied over the five places of a reading
pub row-laid : (out row : List ℤ) (i : ℕ) → length row ≡ 5 → 5 * i + 5 ≤ length out → put_mid (5 * i) (5 * i + 5 - 5 * i) out row ≡ sets out (5 * i) row
row-laid out row i e room =
    put_mid-paste (5 * i) (5 * i + 5 - 5 * i) out row row (length row) refl (omega arith) refl ∙ rw (take_all (length row) row (omega arith)) (sym (sets-eq row out (5 * i) (omega arith)))

-- ---- as the readings go in one by one

-- after i readings: the window so far is sound, and from it those that are left give what all give from the first; what stands behind the rows is as it was
pub record Onward (first : Window) (xs : List ℤ) (out₀ : List ℤ) (here : Window) (out : List ℤ) (i : ℕ) : Type 0 where
  pub some : i ≤ length xs
  pub sound : sound_window here ≡ true
  pub size : length here.levels ≡ 256
  pub room : length out ≡ length out₀
  pub after : after_all here (drop i xs) ≡ after_all first xs
  pub laid : take (5 * i) out ++ rows (answers here (drop i xs)) ≡ rows (answers first xs)
  pub rest : drop (5 * i) out ≡ drop (5 * i) out₀

pub onward-begins : (first : Window) (xs out : List ℤ) → sound_window first ≡ true → length first.levels ≡ 256 → Onward first xs out first out 0
onward-begins first xs out e size =
    record { some = omega arith; sound = e; size = size; room = refl; after = refl; laid = refl; rest = refl }

module _ (first : Window) (xs out₀ : List ℤ) (here : Window) (out : List ℤ) (i : ℕ) (o : Onward first xs out₀ here out i) where
  pub onward-turns : (x : ℤ) → i < length xs → get_or xs i (pos 0) ≡ x → 5 * length xs ≤ length out₀ →
      Onward first xs out₀ (taking here x) (sets out (5 * i) (row_of (figures_kept (taking here x).control))) (i + 1)
  onward-turns x h e most =
      record {
        some = omega arith;
        sound = still-sound here x o.sound o.size;
        size = size-taking here x o.size;
        room = length-sets out (5 * i) row ∙ o.room;
        after = sym (after_on here x o.sound o.size (drop (i + 1) xs)) ∙ (ap (after_all here) (sym next) ∙ o.after);
        laid =
            ap (λ (l : List ℤ). l ++ rows (answers (taking here x) (drop (i + 1) xs))) (row-front out row i (length-row _) (room)) ∙
            (append_assoc (take (5 * i) out) row (rows (answers (taking here x) (drop (i + 1) xs))) ∙
            (ap (λ (l : List ℤ). take (5 * i) out ++ l) (sym (rows_on here x o.sound o.size (drop (i + 1) xs))) ∙
            (ap (λ (l : List ℤ). take (5 * i) out ++ rows (answers here l)) (sym next) ∙ o.laid)));
        rest = row-rest out row i (length-row _) (room) ∙ (ap (drop 5) o.rest ∙ rest-on out₀ i);
      }
    where
      row : List ℤ
      row = row_of (figures_kept (taking here x).control)

      room : 5 * i + 5 ≤ length out
      room = omega (arith, o.room)

      next : drop i xs ≡ x ∷ drop (i + 1) xs
      next = drop-cons xs i (pos 0) h ∙ (ap (λ (z : ℤ). z ∷ drop (suc i) xs) e ∙ ap (λ (n : ℕ). x ∷ drop n xs) (sym (add-one i)))

  module _ (end : length xs ≤ i) where
    none : drop i xs ≡ []
    none = drop_of_length-le xs end

    pub onward-after : here ≡ after_all first xs
    unfolding after_all
    onward-after = ap (after_all here) (sym none) ∙ o.after

    pub onward-rows : out ≡ rows (answers first xs) ++ drop (5 * length xs) out₀
    unfolding answers rows
    onward-rows =
        let e : 5 * i ≡ 5 * length xs = omega (arith, o.some) in
        sym (take-append-drop (5 * i) out) ∙
        (ap (λ (l : List ℤ). take (5 * i) out ++ l) (o.rest ∙ ap (λ (n : ℕ). drop n out₀) e) ∙
        ap (λ (l : List ℤ). l ++ drop (5 * length xs) out₀)
        (sym (append-nil (take (5 * i) out)) ∙ (ap (λ (l : List ℤ). take (5 * i) out ++ rows (answers here l)) (sym none) ∙ o.laid)))

-- ---- the call with many readings

module _ (w : Window) (xs out : List ℤ) where
  pub readings-unsound : sound_window w ≡ false → readings_of w xs out ≡ rows_effect (followed (Err StateUnsound) w) out
  unfolding readings_of
  readings-unsound e = simp e

  -- taken, unless the output is too short
  pub readings-sound : sound_window w ≡ true →
      readings_of w xs out ≡
      if (ltb (length out) (5 * length xs)) (rows_effect (followed (Err OutputShort) w) out)
      (rows_effect (followed (Ok (length xs)) (after_all w xs)) (rows (answers w xs) ++ drop (5 * length xs) out))
  unfolding readings_of
  readings-sound e = simp e

  pub readings-short : sound_window w ≡ true → length out < 5 * length xs → readings_of w xs out ≡ rows_effect (followed (Err OutputShort) w) out
  unfolding readings_of
  readings-short e h = simp (e, lt-ltb (length out) (5 * length xs) h)

  pub readings-taken : sound_window w ≡ true → 5 * length xs ≤ length out →
      readings_of w xs out ≡ rows_effect (followed (Ok (length xs)) (after_all w xs)) (rows (answers w xs) ++ drop (5 * length xs) out)
  unfolding readings_of
  readings-taken e h = simp (e, le-ltb (length out) (5 * length xs) h)
