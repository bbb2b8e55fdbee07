-- Every sound window is left by a list of readings: it is told by its width, its next place and the readings that it holds.
use Prim.Native.Nat.{ℕ, zero, suc, ◌+◌, ◌-◌, ◌%◌, ◌≤◌, ◌<◌}
use mathlib.Core.Bool.{true}
use mathlib.Core.Logic.{⊎_elim}
use mathlib.Core.Path.{◌≡◌, refl, sym, ap, ◌∙◌, subst}
use mathlib.Core.List.{List, [], ◌∷◌, ◌++◌, map}
use native.Mathlib.Omega.{arith}
use native.Mathlib.Nat.{mod-eq_of_lt, add-mod_right, zero-mod}
use lib.IntN.{ℤ, pos}
use lib.ListN.{length, take, drop, get_or, replicate, length-append, length-drop, length-replicate, take-append-drop}
use lib.Seq.{take_at, drop_at, length-take-le}
use Rattle.wing_meters.specs.Afresh.{last_of}
use Rattle.wing_meters.specs.Level.{level_of, reading_at, added, greatest}
use Rattle.wing_meters.specs.Window.{window, control, fresh_window, leaves, in_order, kept_in, sound_window}
use Rattle.wing_meters.specs.Moving.{Readings, no_readings, reading_then, Width, Left, Typed}
use Rattle.wing_meters.specs.declared.window.Window.{Window}
use Rattle.wing_meters.proofs.Levels.{level-reading, reading-in}
use Rattle.wing_meters.proofs.Rings.{last-all, length-turned}
use Rattle.wing_meters.proofs.Soundness.{Sound, sound, is-sound, held-le, next_le}
use Rattle.wing_meters.proofs.Windows.{levels_in, kept-levels, length-levels, length-kept}
use Rattle.wing_meters.proofs.Left.{fresh-sound, fresh-size, fresh_kept, ran, ran-next}

-- ---- a list turned, and turned back

turned-back : (n : ℕ) (r : List ℕ) → n ≤ length r → in_order (length r - n) (in_order n r) ≡ r
unfolding in_order
turned-back n r h =
    let size : length (drop n r) ≡ length r - n = length-drop n r in
    ap (λ (l : List ℕ). l ++ take (length r - n) (drop n r ++ take n r)) (drop_at (drop n r) (take n r) (length r - n) size) ∙
    (ap (λ (l : List ℕ). take n r ++ l) (take_at (drop n r) (take n r) (length r - n) size) ∙ take-append-drop n r)

-- levels none of which is above 0
all-zero : (ls : List ℕ) → greatest ls ≡ 0 → ls ≡ replicate (length ls) 0
unfolding greatest
all-zero [] e = refl
all-zero (l ∷ ls) e =
    let first : l ≡ 0 = omega arith in
    let rest : greatest ls ≡ 0 = omega arith in
    ap (λ (n : ℕ). n ∷ ls) first ∙ ap (λ (m : List ℕ). 0 ∷ m) (all-zero ls rest)

-- ---- a sound window is told by its width, its next place and the levels that it holds in order

module _ (w : Window) (s : Sound w) (size : length w.levels ≡ 256) where
  ring-told : take w.control.held w.levels ≡ in_order (length (levels_in w) - w.control.next) (levels_in w)
  unfolding levels_in
  ring-told =
      let r = take w.control.held w.levels in
      let long : length r ≡ w.control.held = length-take-le w.control.held w.levels (omega (arith, held-le w.control s.placed, s.placed.few)) in
      sym
      (ap (λ (n : ℕ). in_order (n - w.control.next) (in_order w.control.next r)) (length-turned w.control.next r) ∙
      turned-back w.control.next r (omega (arith, next_le w.control s.placed)))

  levels-told : w.levels ≡ in_order (length (levels_in w) - w.control.next) (levels_in w) ++ replicate (256 - length (levels_in w)) 0
  levels-told =
      let rest : drop w.control.held w.levels ≡ replicate (256 - length (levels_in w)) 0 =
      let count : length (drop w.control.held w.levels) ≡ 256 - length (levels_in w) =
      length-drop w.control.held w.levels ∙ omega (arith, size, length-levels w s size) in
      all-zero (drop w.control.held w.levels) s.unused ∙ ap (λ (n : ℕ). replicate n 0) count in
      sym (take-append-drop w.control.held w.levels) ∙
      (ap (λ (l : List ℕ). l ++ drop w.control.held w.levels) ring-told ∙
      ap (λ (l : List ℕ). in_order (length (levels_in w) - w.control.next) (levels_in w) ++ l) rest)

pub same-window : (v w : Window) → Sound v → Sound w → length v.levels ≡ 256 → length w.levels ≡ 256 →
    v.control.width ≡ w.control.width → v.control.next ≡ w.control.next → levels_in v ≡ levels_in w → v ≡ w
same-window v w s t a b width next levels =
    let same : v.levels ≡ w.levels =
    levels-told v s a ∙
    (ap (λ (n : ℕ). in_order (length (levels_in v) - n) (levels_in v) ++ replicate (256 - length (levels_in v)) 0) next ∙
    (ap (λ (l : List ℕ). in_order (length l - w.control.next) l ++ replicate (256 - length l) 0) levels ∙ sym (levels-told w t b))) in
    let held : v.control.held ≡ w.control.held = sym (length-levels v s a) ∙ (ap length levels ∙ length-levels w t b) in
    let top : v.control.top ≡ w.control.top = sym s.top ∙ (ap greatest same ∙ t.top) in
    let sum : v.control.sum ≡ w.control.sum = sym s.sum ∙ (ap added same ∙ t.sum) in
    ap (λ (n : ℕ). window (control n v.control.held v.control.next v.control.top v.control.sum) v.levels) width ∙
    (ap (λ (n : ℕ). window (control w.control.width n v.control.next v.control.top v.control.sum) v.levels) held ∙
    (ap (λ (n : ℕ). window (control w.control.width w.control.held n v.control.top v.control.sum) v.levels) next ∙
    (ap (λ (n : ℕ). window (control w.control.width w.control.held w.control.next n v.control.sum) v.levels) top ∙
    (ap (λ (n : ℕ). window (control w.control.width w.control.held w.control.next w.control.top n) v.levels) sum ∙
    ap (window w.control) same))))

-- ---- readings of 16 bits

data Below : List ℕ → Type 0 where
  nothing : Below []
  below : {l : ℕ} {ls : List ℕ} → l < 65536 → Below ls → Below (l ∷ ls)

are-below : (ls : List ℕ) → ((k : ℕ) → get_or ls k 0 < 65536) → Below ls
are-below [] h = nothing
are-below (l ∷ ls) h = below (h 0) (are-below ls (λ k. h (suc k)))

below-append : {a b : List ℕ} → Below a → Below b → Below (a ++ b)
below-append nothing q = q
below-append (below h p) q = below h (below-append p q)

below-take : (n : ℕ) {ls : List ℕ} → Below ls → Below (take n ls)
below-take zero p = nothing
below-take (suc n) nothing = nothing
below-take (suc n) (below h p) = below h (below-take n p)

below-drop : (n : ℕ) {ls : List ℕ} → Below ls → Below (drop n ls)
below-drop zero p = p
below-drop (suc n) nothing = nothing
below-drop (suc n) (below h p) = below-drop n p

of-levels : {ls : List ℕ} → Below ls → Readings (map reading_at ls)
of-levels nothing = no_readings
of-levels (below {l} h p) = reading_then (reading-in l h) (of-levels p)

silence : (n : ℕ) {xs : List ℤ} → Readings xs → Readings (replicate n (pos 0) ++ xs)
silence zero r = r
silence (suc n) r = reading_then {x = pos 0} (omega arith) (silence n r)

kept-readings : (w : Window) → Typed w → Readings (kept_in w)
unfolding levels_in in_order
kept-readings w t =
    let ring = below-take w.control.held (are-below w.levels t.levels) in
    subst Readings (sym (kept-levels w)) (of-levels (below-append (below-drop w.control.next ring) (below-take w.control.next ring)))

-- ---- a list that leaves it

levels-back : (ls : List ℕ) → map level_of (map reading_at ls) ≡ ls
levels-back [] = refl
levels-back (l ∷ ls) = ap (λ (n : ℕ). n ∷ map level_of (map reading_at ls)) (level-reading l) ∙ ap (λ (m : List ℕ). l ∷ m) (levels-back ls)

same-levels : (v w : Window) → kept_in v ≡ kept_in w → levels_in v ≡ levels_in w
same-levels v w e =
    sym (levels-back (levels_in v)) ∙
    (ap (map level_of) (sym (kept-levels v) ∙ (e ∙ kept-levels w)) ∙ levels-back (levels_in w))

module _ (w : Window) (e : sound_window w ≡ true) (t : Typed w) where
  -- readings of which the last ones are those that it holds, and so many that the next place is its own
  leaves-it : (xs : List ℤ) → Readings xs → last_of w.control.width xs ≡ kept_in w → length xs % w.control.width ≡ w.control.next → Left w
  leaves-it xs r last place =
      let s = sound w e in
      let width = w.control.width in
      let v : Width width = record { some = s.placed.some; few = s.placed.few } in
      let f = fresh_window width in
      let run = ran f xs (is-sound f (fresh-sound width v)) (fresh-size width) r in
      let kept : kept_in (leaves width xs) ≡ kept_in w = run.kept ∙ (ap (λ (l : List ℤ). last_of width (l ++ xs)) (fresh_kept width) ∙ last) in
      let next : (leaves width xs).control.next ≡ w.control.next = ran-next f xs 0 v.some (sym (zero-mod width)) ∙ (ap (λ (n : ℕ). n % width) zero-plus ∙ place) in
      record {
        width = width;
        list = xs;
        by =
            record {
              wide = v;
              readings = r;
              left = same-window (leaves width xs) w (sound _ run.sound) s run.size t.size run.width next (same-levels (leaves width xs) w kept);
            };
      }
    where
      zero-plus : 0 + length xs ≡ length xs
      zero-plus = omega arith

  pub reached : Left w
  reached = ⊎_elim unfilled full s.placed.place
    where
      s : Sound w
      s = sound w e

      long : length (kept_in w) ≡ w.control.held
      long = length-kept w s t.size

      unfilled : ((w.control.held < w.control.width) × (w.control.next ≡ w.control.held)) → Left w
      unfilled u =
          leaves-it (kept_in w) (kept-readings w t) (last-all w.control.width (kept_in w) (omega (arith, long, u.0)))
          (ap (λ (n : ℕ). n % w.control.width) long ∙ (mod-eq_of_lt u.0 ∙ sym u.1))

      full : ((w.control.held ≡ w.control.width) × (w.control.next < w.control.width)) → Left w
      full f =
          let width = w.control.width in
          let next = w.control.next in
          let before = replicate next (pos 0) in
          let first : length before ≡ next = length-replicate next (pos 0) in
          let all : length (before ++ kept_in w) ≡ next + width = length-append before (kept_in w) ∙ omega (arith, first, long, f.0) in
          let off : length (before ++ kept_in w) - width ≡ next = omega arith in
          leaves-it (before ++ kept_in w) (silence next (kept-readings w t))
          (ap (λ (n : ℕ). drop n (before ++ kept_in w)) off ∙ drop_at before (kept_in w) next first)
          (ap (λ (n : ℕ). n % width) all ∙ (add-mod_right next width ∙ mod-eq_of_lt f.1))
