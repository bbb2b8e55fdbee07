-- Windows: what they hold after a reading, that they stay sound, and that what is kept up gives the figures.
use Prim.Native.Nat.{ℕ, zero, suc, ◌+◌, ◌-◌, ◌*◌, ◌/◌, ◌%◌, ◌≤◌, ◌<◌}
use mathlib.Core.Logic.{⊎_elim}
use mathlib.Core.Path.{◌≡◌, refl, sym, ap, ◌∙◌, subst}
use mathlib.Core.List.{List, [], ◌∷◌, ◌++◌, map, map-append}
use native.Mathlib.Omega.{arith}
use lib.IntN.{ℤ}
use lib.ListN.{length, take, drop, set, get_or, length-append}
use lib.Seq.{length-take-le, drop-set-lt, get_or-take}
use borrow.Author.Tests.{lt-ltb, le-ltb, eq-eqb, ne_eqb}
use Rattle.wing_node.specs.Signed.{InBits}
use Rattle.wing_meters.specs.Afresh.{last_of, total, quotient, remainder, largest, figures, figures_of}
use Rattle.wing_meters.specs.Level.{level_of, reading_at, lowered, added, greatest}
use Rattle.wing_meters.specs.Window.{grown, onward, taking, in_order, kept_in}
use Rattle.wing_meters.specs.Kept.{figures_kept, told_kept, InRange, TopBefore}
use Rattle.wing_meters.specs.declared.window.Control.{Control}
use Rattle.wing_meters.specs.declared.window.Window.{Window}
use Rattle.wing_meters.proofs.Levels.{reading-level, total_lowered, quotient-lowered, largest-lowered}
use Rattle.wing_meters.proofs.Sums.{kept-up, leaving-in, top-before, added-le, greatest-from, added-turned, greatest-turned, added-used, greatest-used}
use Rattle.wing_meters.proofs.Rings.{length-turned, last-all, last-but, unfilled, full, grown-below, grown-full, place-on}
use Rattle.wing_meters.proofs.Soundness.{Sound, held-le, next-below}
use Rattle.std.specs.Prelude.{Ok, Some}

-- ---- lists mapped

pub length-map : {A B : Type 0} (f : A → B) (l : List A) → length (map f l) ≡ length l
length-map f [] = refl
length-map f (x ∷ l) = ap suc (length-map f l)

drop-map : {A B : Type 0} (f : A → B) (n : ℕ) (l : List A) → drop n (map f l) ≡ map f (drop n l)
drop-map f zero l = refl
drop-map f (suc n) [] = refl
drop-map f (suc n) (x ∷ l) = drop-map f n l

pub last-map : {A B : Type 0} (f : A → B) (n : ℕ) (l : List A) → last_of n (map f l) ≡ map f (last_of n l)
last-map f n l = ap (λ (k : ℕ). drop (k - n) (map f l)) (length-map f l) ∙ drop-map f (length l - n) l

-- the levels held, the oldest first
unfoldable pub levels_in : Window → List ℕ
levels_in w = let c = w.control in in_order c.next (take c.held w.levels)

pub kept-levels : (w : Window) → kept_in w ≡ map reading_at (levels_in w)
unfolding kept_in levels_in
kept-levels w = refl

-- the figures of readings, by the sum and the largest of their levels
told-levels : (ls : List ℕ) (c : Control) → length ls ≡ c.held → added ls ≡ c.sum → greatest ls ≡ c.top → figures_of (map reading_at ls) ≡ told_kept c
unfolding figures_of told_kept figures_kept
told-levels [] c n s t = sym (simp (eq-eqb c.held 0 (sym n)))
told-levels (l ∷ ls) c n s t =
    let size : length (map reading_at (l ∷ ls)) ≡ c.held = length-map reading_at (l ∷ ls) ∙ n in
    let sum : total (map reading_at (l ∷ ls)) ≡ lowered c.sum c.held =
    total_lowered (l ∷ ls) ∙ (ap (λ (k : ℕ). lowered k (length (l ∷ ls))) s ∙ ap (lowered c.sum) n) in
    let parts = quotient-lowered c.sum c.held (omega arith) in
    let top : largest (reading_at l) (map reading_at ls) ≡ reading_at c.top = largest-lowered l ls ∙ ap reading_at t in
    ap (λ (k : ℕ). Ok (Some (figures k (total (map reading_at (l ∷ ls))) (quotient (total (map reading_at (l ∷ ls))) k) (remainder (total (map reading_at (l ∷ ls))) k) (largest (reading_at l) (map reading_at ls))))) size ∙
    (ap (λ (z : ℤ). Ok (Some (figures c.held z (quotient z c.held) (remainder z c.held) (largest (reading_at l) (map reading_at ls))))) sum ∙
    (ap (λ (z : ℤ). Ok (Some (figures c.held (lowered c.sum c.held) z (remainder (lowered c.sum c.held) c.held) (largest (reading_at l) (map reading_at ls))))) parts.0 ∙
    (ap (λ (k : ℕ). Ok (Some (figures c.held (lowered c.sum c.held) (reading_at (c.sum / c.held)) k (largest (reading_at l) (map reading_at ls))))) parts.1 ∙
    (ap (λ (z : ℤ). Ok (Some (figures c.held (lowered c.sum c.held) (reading_at (c.sum / c.held)) (c.sum % c.held) z))) top ∙
    sym (simp (ne_eqb c.held 0 (λ e. omega arith)))))))

module _ (w : Window) (s : Sound w) (size : length w.levels ≡ 256) where
  held_in : w.control.held ≤ length w.levels
  held_in = omega (arith, held-le w.control s.placed, s.placed.few)

  pub length-levels : length (levels_in w) ≡ w.control.held
  unfolding levels_in
  length-levels =
      length-turned w.control.next (take w.control.held w.levels) ∙ length-take-le w.control.held w.levels held_in

  pub length-kept : length (kept_in w) ≡ w.control.held
  length-kept = ap length (kept-levels w) ∙ (length-map reading_at (levels_in w) ∙ length-levels)

  -- 02: the oldest leaves when it is full
  levels-taking : (x : ℤ) → levels_in (taking w x) ≡ last_of w.control.width (levels_in w ++ (level_of x ∷ []))
  unfolding levels_in taking
  levels-taking x = ⊎_elim below whole s.placed.place
    where
      After : Type 0
      After =
          in_order (onward w.control.next w.control.width) (take (grown w.control.held w.control.width) (set w.levels w.control.next (level_of x))) ≡
          last_of w.control.width (levels_in w ++ (level_of x ∷ []))

      fits : w.control.width ≤ length w.levels
      fits = omega (arith, size, s.placed.few)

      longer : length (levels_in w ++ (level_of x ∷ [])) ≡ w.control.held + 1
      longer = length-append (levels_in w) (level_of x ∷ []) ∙ ap (λ (n : ℕ). n + 1) length-levels

      below : ((w.control.held < w.control.width) × (w.control.next ≡ w.control.held)) → After
      below u =
          let held = w.control.held in
          let width = w.control.width in
          let more : grown held width ≡ held + 1 = simp (lt-ltb held width u.0) in
          ap (λ (n : ℕ). in_order (onward n width) (take (grown held width) (set w.levels n (level_of x)))) u.1 ∙
          (ap (λ (n : ℕ). in_order (onward held width) (take n (set w.levels held (level_of x)))) more ∙
          (unfilled w.levels width (level_of x) fits held u.0 ∙
          (ap (λ (n : ℕ). in_order n (take held w.levels) ++ (level_of x ∷ [])) (sym u.1) ∙
          sym (last-all width (levels_in w ++ (level_of x ∷ [])) (omega (arith, longer, u.0))))))

      whole : ((w.control.held ≡ w.control.width) × (w.control.next < w.control.width)) → After
      whole f =
          let next = w.control.next in
          let width = w.control.width in
          let same : grown w.control.held width ≡ width = simp (le-ltb w.control.held width (omega (arith, f.0))) f.0 in
          ap (λ (n : ℕ). in_order (onward next width) (take n (set w.levels next (level_of x)))) same ∙
          (full w.levels width (level_of x) fits next f.1 ∙
          (ap (λ (n : ℕ). drop 1 (in_order next (take n w.levels) ++ (level_of x ∷ []))) (sym f.0) ∙
          sym (last-but width (levels_in w ++ (level_of x ∷ [])) (longer ∙ ap (λ (n : ℕ). n + 1) f.0))))

  -- the readings that it holds are the last ones of those that it held and the new one
  pub kept-taking : (x : ℤ) → InBits 15 x → kept_in (taking w x) ≡ last_of w.control.width (kept_in w ++ (x ∷ []))
  kept-taking x b =
      kept-levels (taking w x) ∙
      (ap (map reading_at) (levels-taking x) ∙
      (sym (last-map reading_at w.control.width (levels_in w ++ (level_of x ∷ []))) ∙ ap (last_of w.control.width) joined))
    where
      joined : map reading_at (levels_in w ++ (level_of x ∷ [])) ≡ kept_in w ++ (x ∷ [])
      joined =
          map-append reading_at (levels_in w) (level_of x ∷ []) ∙
          (ap (λ (l : List ℤ). l ++ (reading_at (level_of x) ∷ [])) (sym (kept-levels w)) ∙
          ap (λ (z : ℤ). kept_in w ++ (z ∷ [])) (reading-level x b))

  -- a place that is not used yet stays 0
  unused-on : (x : ℤ) → greatest (drop (grown w.control.held w.control.width) (set w.levels w.control.next (level_of x))) ≡ 0
  unused-on x = ⊎_elim below whole s.placed.place
    where
      held : ℕ
      held = w.control.held

      after : (n : ℕ) → w.control.next < n → drop n (set w.levels w.control.next (level_of x)) ≡ drop n w.levels
      after n h = drop-set-lt n w.levels w.control.next (level_of x) h

      Unused : Type 0
      Unused = greatest (drop (grown w.control.held w.control.width) (set w.levels w.control.next (level_of x))) ≡ 0

      below : ((w.control.held < w.control.width) × (w.control.next ≡ w.control.held)) → Unused
      below u =
          rw (grown-below w.control.width w.control.held w.control.next s.placed.some u.0)
          (ap greatest (after (w.control.held + 1) (omega (arith, u.1))) ∙
          omega (arith, greatest-from w.levels w.control.held (omega (arith, u.0, size, s.placed.few)), s.unused))

      whole : ((w.control.held ≡ w.control.width) × (w.control.next < w.control.width)) → Unused
      whole f =
          rw (grown-full w.control.width w.control.held w.control.next s.placed.some f.0)
          (ap greatest (after w.control.held (omega (arith, f.0, f.1))) ∙ s.unused)

  -- a reading leaves a sound window sound
  pub sound-taking : (x : ℤ) → Sound (taking w x)
  unfolding taking
  sound-taking x =
      record {
        placed =
            record {
              some = s.placed.some;
              few = s.placed.few;
              place = place-on w.control.width w.control.held w.control.next s.placed.some s.placed.place;
            };
        sum = refl;
        top = refl;
        unused = unused-on x;
      }

  pub next-in : w.control.next < length w.levels
  next-in = omega (arith, next-below w.control s.placed, s.placed.few)

  -- the sum is kept up
  pub sum-taking : (v : ℕ) → added (set w.levels w.control.next v) ≡ w.control.sum - get_or w.levels w.control.next 0 + v
  sum-taking v = kept-up w.levels w.control.next v next-in ∙ ap (λ (n : ℕ). n - get_or w.levels w.control.next 0 + v) s.sum

  pub leaving-le : get_or w.levels w.control.next 0 ≤ w.control.sum
  leaving-le = omega (arith, leaving-in w.levels w.control.next 0 next-in, s.sum)

  -- and so is the largest
  pub top-taking : (v : ℕ) → TopBefore w.control.top (get_or w.levels w.control.next 0) v (set w.levels w.control.next v)
  top-taking v =
      subst (λ (t : ℕ). TopBefore t (get_or w.levels w.control.next 0) v (set w.levels w.control.next v)) s.top
      (top-before w.levels w.control.next v next-in)

  -- how large the sum can be
  pub in-range : ((k : ℕ) → k < length w.levels → get_or w.levels k 0 ≤ 65535) → InRange w.control
  in-range most =
      record {
        few = omega (arith, held-le w.control s.placed, s.placed.few);
        sum =
            let used = added-used w.control.held w.levels s.unused in
            let size' = length-take-le w.control.held w.levels held_in in
            let sums =
            added-le (take w.control.held w.levels) 65535
            (λ k b. subst (λ (n : ℕ). n ≤ 65535) (sym (get_or-take w.control.held w.levels k 0 (omega arith))) (most k (omega (arith, held_in)))) in
            let product : 65535 * length (take w.control.held w.levels) ≡ 65535 * w.control.held = ap (λ (n : ℕ). 65535 * n) size' in
            omega (arith, s.sum);
      }

  -- what is kept up gives the figures of the readings that are held
  pub kept-told : figures_of (kept_in w) ≡ told_kept w.control
  unfolding levels_in
  kept-told =
      let r = take w.control.held w.levels in
      ap figures_of (kept-levels w) ∙
      told-levels (levels_in w) w.control length-levels
      (added-turned w.control.next r ∙ (added-used w.control.held w.levels s.unused ∙ s.sum))
      (greatest-turned w.control.next r ∙ (greatest-used w.control.held w.levels s.unused ∙ s.top))
