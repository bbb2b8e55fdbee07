-- What a list of readings leaves, and which windows some list leaves.
use Prim.Native.Nat.{ℕ, zero, suc, ◌+◌, ◌-◌, ◌%◌, ◌≤◌, ◌<◌}
use mathlib.Core.Bool.{true}
use mathlib.Core.Logic.{inl}
use mathlib.Core.Path.{◌≡◌, refl, sym, ap, ◌∙◌, subst}
use mathlib.Core.List.{List, [], ◌∷◌, ◌++◌, foldl, append-nil, append_assoc}
use native.Mathlib.Omega.{arith}
use native.Mathlib.Nat.{mod-lt, mod-eq_of_lt, mod_self, suc-mod}
use native.Mathlib.Numerals.{add-one}
use lib.Dec.{ltb}
use lib.IntN.{ℤ}
use lib.ListN.{length, take, drop, get_or, replicate, length-append, length-drop}
use lib.Seq.{drop-append-le, drop-drop}
use borrow.Author.Tests.{ltb-true, ltb-false}
use Rattle.wing_node.proofs.Branches.{branch}
use Rattle.wing_meters.specs.Afresh.{last_of, figures_of}
use Rattle.wing_meters.specs.Level.{added, greatest}
use Rattle.wing_meters.specs.Window.{fresh_window, taking, onward, in_order, kept_in, sound_window}
use Rattle.wing_meters.specs.Calls.{reading_of, after_all, answers}
use Rattle.wing_meters.specs.Moving.{Readings, reading_then, Width}
use Rattle.wing_meters.specs.declared.window.Window.{Window}
use Rattle.wing_meters.proofs.Rings.{last-all}
use Rattle.wing_meters.proofs.Soundness.{Sound, sound, held-le}
use Rattle.wing_meters.proofs.Windows.{kept-taking, length-kept}
use Rattle.wing_meters.proofs.Follows.{size-taking, reading-sound, still-sound, after_on}
use Rattle.std.specs.Prelude.{None, Ok}

after_none : (w : Window) → after_all w [] ≡ w
unfolding after_all
after_none w = refl

-- ---- a fresh window

added-zeros : (n : ℕ) → added (replicate n 0) ≡ 0
unfolding added
added-zeros zero = refl
added-zeros (suc n) = let e = added-zeros n in omega arith

greatest-zeros : (n : ℕ) → greatest (replicate n 0) ≡ 0
unfolding greatest
greatest-zeros zero = refl
greatest-zeros (suc n) = let e = greatest-zeros n in omega arith

pub fresh-sound : (width : ℕ) → Width width → Sound (fresh_window width)
fresh-sound width v =
    record {
      placed = record { some = v.some; few = v.few; place = inl (v.some, refl) };
      sum = added-zeros 256;
      top = greatest-zeros 256;
      unused = greatest-zeros 256;
    }

pub fresh-size : (width : ℕ) → length (fresh_window width).levels ≡ 256
fresh-size width = refl

pub fresh_kept : (width : ℕ) → kept_in (fresh_window width) ≡ []
unfolding kept_in in_order
fresh_kept width = refl

-- ---- the last of lists joined

pub last-last : {A : Type 0} (n : ℕ) (a b : List A) → last_of n (last_of n a ++ b) ≡ last_of n (a ++ b)
last-last n a b =
    let k = length a - n in
    let joined : drop k a ++ b ≡ drop k (a ++ b) = sym (drop-append-le k a b (omega arith)) in
    let all : length (a ++ b) ≡ length a + length b = length-append a b in
    let less : length (drop k (a ++ b)) ≡ length (a ++ b) - k = length-drop k (a ++ b) in
    let e : k + (length (drop k (a ++ b)) - n) ≡ length (a ++ b) - n = omega arith in
    ap (last_of n) joined ∙ (drop-drop (length (drop k (a ++ b)) - n) k (a ++ b) ∙ ap (λ (m : ℕ). drop m (a ++ b)) e)

-- ---- the place after a place, by the number of readings

onward-mod : (n width : ℕ) → 0 < width → onward (n % width) width ≡ suc n % width
onward-mod n width h =
    branch (λ (m : ℕ). m ≡ suc n % width) (ltb (n % width + 1) width) _ _
    (λ e.
    let l : n % width + 1 < width = ltb-true _ _ e in
    add-one (n % width) ∙ (sym (mod-eq_of_lt (omega arith)) ∙ sym (suc-mod n width)))
    (λ e.
    let l : width ≤ n % width + 1 = ltb-false _ _ e in
    let full : suc (n % width) ≡ width = omega (arith, mod-lt n h) in
    sym (suc-mod n width ∙ (ap (λ (m : ℕ). m % width) full ∙ mod_self width)))

-- ---- readings one after the other

pub width-taking : (w : Window) (x : ℤ) → (taking w x).control.width ≡ w.control.width
unfolding taking
width-taking w x = refl

next-taking : (w : Window) (x : ℤ) → (taking w x).control.next ≡ onward w.control.next w.control.width
unfolding taking
next-taking w x = refl

-- what they leave of a sound window
pub record Ran (w : Window) (xs : List ℤ) : Type 0 where
  pub sound : sound_window (foldl taking w xs) ≡ true
  pub size : length (foldl taking w xs).levels ≡ 256
  pub width : (foldl taking w xs).control.width ≡ w.control.width
  -- the last readings of those that it held and these
  pub kept : kept_in (foldl taking w xs) ≡ last_of w.control.width (kept_in w ++ xs)

pub ran : (w : Window) (xs : List ℤ) → sound_window w ≡ true → length w.levels ≡ 256 → Readings xs → Ran w xs
ran w [] e size r =
    let s = sound w e in
    let few : length (kept_in w ++ []) ≤ w.control.width =
    subst (λ (l : List ℤ). length l ≤ w.control.width) (sym (append-nil (kept_in w))) (omega (arith, length-kept w s size, held-le w.control s.placed)) in
    record { sound = e; size = size; width = refl; kept = sym (last-all w.control.width (kept_in w ++ []) few ∙ append-nil (kept_in w)) }
ran w (x ∷ xs) e size (reading_then b r) =
    let t = ran (taking w x) xs (still-sound w x e size) (size-taking w x size) r in
    let width = w.control.width in
    record {
      sound = t.sound;
      size = t.size;
      width = t.width ∙ width-taking w x;
      kept =
          t.kept ∙
          (ap (λ (n : ℕ). last_of n (kept_in (taking w x) ++ xs)) (width-taking w x) ∙
          (ap (λ (l : List ℤ). last_of width (l ++ xs)) (kept-taking w (sound w e) size x b) ∙
          (last-last width (kept_in w ++ (x ∷ [])) xs ∙ ap (last_of width) (append_assoc (kept_in w) (x ∷ []) xs))));
    }

-- the next place, by the number of readings
pub ran-next : (w : Window) (xs : List ℤ) (n : ℕ) → 0 < w.control.width → w.control.next ≡ n % w.control.width →
    (foldl taking w xs).control.next ≡ (n + length xs) % w.control.width
ran-next w [] n h e = e ∙ ap (λ (m : ℕ). m % w.control.width) (omega arith)
ran-next w (x ∷ xs) n h e =
    let width = w.control.width in
    let more : suc n + length xs ≡ n + suc (length xs) = omega arith in
    let on : (taking w x).control.next ≡ suc n % (taking w x).control.width =
    next-taking w x ∙ (ap (λ (m : ℕ). onward m width) e ∙ (onward-mod n width h ∙ ap (λ (m : ℕ). suc n % m) (sym (width-taking w x)))) in
    ran-next (taking w x) xs (suc n) (subst (λ (m : ℕ). 0 < m) (sym (width-taking w x)) h) on ∙
    (ap (λ (m : ℕ). (suc n + length xs) % m) (width-taking w x) ∙ ap (λ (m : ℕ). m % width) more)

-- the calls leave what the readings leave
pub after-ran : (w : Window) (xs : List ℤ) → sound_window w ≡ true → length w.levels ≡ 256 → after_all w xs ≡ foldl taking w xs
after-ran w [] e size = after_none w
after-ran w (x ∷ xs) e size = after_on w x e size xs ∙ after-ran (taking w x) xs (still-sound w x e size) (size-taking w x size)

-- each call is answered with the figures of what the window holds then
pub answered : (w : Window) (xs : List ℤ) (k : ℕ) → sound_window w ≡ true → length w.levels ≡ 256 → k < length xs →
    get_or (answers w xs) k (Ok None) ≡ figures_of (kept_in (foldl taking w (take (suc k) xs)))
unfolding answers
answered w [] k e size h = absurd (omega arith)
answered w (x ∷ xs) zero e size h = rw (reading-sound w x e)
answered w (x ∷ xs) (suc k) e size h = rw (reading-sound w x e) (answered (taking w x) xs k (still-sound w x e size) (size-taking w x size) (omega arith))

pub answers-count : (w : Window) (xs : List ℤ) → length (answers w xs) ≡ length xs
unfolding answers
answers-count w [] = refl
answers-count w (x ∷ xs) = ap suc (answers-count (reading_of w x).window xs)
