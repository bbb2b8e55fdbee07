-- Every answer about a window is what its numbers mean: each case is computed.
use Prim.Native.Nat.{ℕ, ◌*◌}
use mathlib.Core.Path.{◌≡◌, refl, ap}
use mathlib.Core.List.{List, [], ◌∷◌}
use lib.Dec.{ltb}
use lib.IntN.{ℤ}
use lib.ListN.{length}
use Rattle.wing_node.proofs.Branches.{branch}
use Rattle.wing_meters.specs.Afresh.{figures_of}
use Rattle.wing_meters.specs.Window.{taking, kept_in, sound_window, sound_control}
use Rattle.wing_meters.specs.Calls.{made_of, figures_answer, reading_of, followed, RowsEffect, readings_of}
use Rattle.wing_meters.specs.declared.window.Window.{Window}
use Rattle.wing_meters.specs.declared.reading.Taken.{Taken}
use Rattle.wing_c.specs.Windows.{told_numbers, made_numbers, reading_numbers, followed_by, window_given}
use Rattle.wing_c.specs.WindowMeanings.{figures_in, told_in, made_in, reading_in, followed_in, WindowsSay}
use Rattle.wing_c.specs.Meanings.{NoGood}
use Rattle.wing_c.proofs.Said.{by_number}
use Rattle.std.specs.Prelude.{Ok, Some, Option, None, Err, ℕ, false}
use Rattle.wing_node.specs.Result.{Result}
use Rattle.wing_meters.specs.declared.figures.Figures.{Figures}
use Rattle.wing_node.specs.declared.refusal.Refusal.{Refusal}

-- ---- each answer

told : (a : Result (Option Figures)) → NoGood a → told_in (told_numbers a) ≡ a
unfolding told_in figures_in
told (Ok None) h = refl
told (Ok (Some f)) h = refl
told (Err why) h = by_number Err _ why h

made : (m : Result Window) → NoGood m → made_in (made_numbers m) ≡ m
unfolding made_in
made (Ok w) h = refl
made (Err why) h = by_number Err _ why h

reading : (t : Taken) → NoGood t.answer → reading_in (reading_numbers t) ≡ t
unfolding reading_in
reading t h = rw (told t.answer h)

rows-said : (a : Result ℕ) (w : Window) → NoGood a → followed_in (followed_by a w) ≡ followed a w
unfolding followed_in
rows-said (Ok n) w h = refl
rows-said (Err why) w h = ap (λ (r : Result ℕ). followed r w) (by_number Err _ why h)

-- ---- no refusal of the calls has a good

figures-told : (xs : List ℤ) → NoGood (figures_of xs)
unfolding figures_of
figures-told [] = tt
figures-told (x ∷ xs) = tt

make-told : (width : ℕ) → NoGood (made_of width)
unfolding made_of
make-told width = branch NoGood (ltb width 1) _ _ (λ _. refl) (λ _. branch NoGood (ltb 256 width) _ _ (λ _. refl) (λ _. tt))

answer-told : (w : Window) → NoGood (figures_answer w)
unfolding figures_answer
answer-told w = branch NoGood (sound_window w) _ _ (λ _. figures-told (kept_in w)) (λ _. refl)

reading-told : (w : Window) (x : ℤ) → NoGood (reading_of w x).answer
unfolding reading_of
reading-told w x =
    branch (λ (t : Taken). NoGood t.answer) (sound_window w) _ _ (λ _. figures-told (kept_in (taking w x))) (λ _. refl)

readings-told : (w : Window) (xs out : List ℤ) → NoGood (readings_of w xs out).reply.answer
unfolding readings_of
readings-told w xs out =
    let Of : RowsEffect → Type 0 = λ e. NoGood e.reply.answer in
    branch Of (sound_window w) _ _
    (λ _. branch Of (ltb (length out) (5 * length xs)) _ _ (λ _. refl) (λ _. tt)) (λ _. refl)

-- a window of width 0 is refused by every call
no-window : (why : Refusal) → sound_window (window_given (made_numbers (Err why)).window) ≡ false
unfolding sound_window sound_control
no-window why = refl

-- every answer about a window is what its numbers mean
pub windows-say : WindowsSay
windows-say =
    record {
      window = λ w. refl;
      given = λ w. refl;
      told = told;
      made = made;
      reading = reading;
      readings = λ f h. rows-said f.answer f.window h;
      make_call = λ width. made (made_of width) (make-told width);
      figures_call = λ w. told (figures_answer w) (answer-told w);
      reading_call = λ w x. reading (reading_of w x) (reading-told w x);
      readings_call = λ w xs out. let f = (readings_of w xs out).reply in rows-said f.answer f.window (readings-told w xs out);
      none_zero = record { held = refl; sum = refl; mean = refl; rest = refl; top = refl };
      refused_zero = λ why. record { held = refl; sum = refl; mean = refl; rest = refl; top = refl };
      no_rows = λ why w. refl;
      no_window = no-window;
    }
