-- Which windows are sound, told apart and put together again.
use Prim.Native.Nat.{◌≤◌, ◌<◌}
use mathlib.Core.Bool.{Bool, true, false, true≢false}
use mathlib.Core.Logic.{inl, inr, ⊎_elim}
use mathlib.Core.Path.{◌≡◌, sym, ◌∙◌}
use native.Mathlib.Omega.{arith}
use lib.Dec.{ltb, eqb}
use lib.ListN.{drop}
use borrow.Author.Tests.{lt-ltb, le-ltb, ltb-true, ltb-false, eq-eqb, eqb-true}
use Rattle.wing_node.specs.Bool.{and}
use Rattle.wing_node.proofs.Branches.{branch, and_left, and_right}
use Rattle.wing_meters.specs.Level.{added, greatest}
use Rattle.wing_meters.specs.Window.{sound_control, sound_window}
use Rattle.wing_meters.specs.declared.window.Control.{Control}
use Rattle.wing_meters.specs.declared.window.Window.{Window}
use Rattle.wing_meters.proofs.Rings.{Place}

-- a width in range; until the window is full the next place is after the last one, then any of the ring
pub record Placed (c : Control) : Type 0 where
  pub some : 1 ≤ c.width
  pub few : c.width ≤ 256
  pub place : Place c.width c.held c.next

pub record Sound (w : Window) : Type 0 where
  pub placed : Placed w.control
  pub sum : added w.levels ≡ w.control.sum
  pub top : greatest w.levels ≡ w.control.top
  pub unused : greatest (drop w.control.held w.levels) ≡ 0

module _ (c : Control) (some : 1 ≤ c.width) (few : c.width ≤ 256) where
  -- until it is full the next place is after the last one
  pub place-unfilled : c.held < c.width → sound_control c ≡ eqb c.next c.held
  unfolding sound_control
  place-unfilled h = simp (le-ltb c.width 1 some, le-ltb 256 c.width few, lt-ltb c.held c.width h)

  -- then it is any of the ring
  pub place-full : c.held ≡ c.width → sound_control c ≡ ltb c.next c.width
  unfolding sound_control
  place-full h =
      simp (le-ltb c.width 1 some, le-ltb 256 c.width few, le-ltb c.held c.width (omega arith), eq-eqb c.held c.width h)

pub never : {A : Type 0} → false ≡ true → A
never e = absurd (true≢false (sym e))

pub placed : (c : Control) → sound_control c ≡ true → Placed c
unfolding sound_control
placed c =
    branch (λ (t : Bool). t ≡ true → Placed c) (ltb c.width 1) _ _ (λ a e. never e)
    (λ some.
    branch (λ (t : Bool). t ≡ true → Placed c) (ltb 256 c.width) _ _ (λ a e. never e)
    (λ few.
    branch (λ (t : Bool). t ≡ true → Placed c) (ltb c.held c.width) _ _
    (λ below e.
    record {
      some = ltb-false _ _ some;
      few = ltb-false _ _ few;
      place = inl (ltb-true _ _ below, eqb-true _ _ e);
    })
    (λ above.
    branch (λ (t : Bool). t ≡ true → Placed c) (eqb c.held c.width) _ _
    (λ full e.
    record {
      some = ltb-false _ _ some;
      few = ltb-false _ _ few;
      place = inr (eqb-true _ _ full, ltb-true _ _ e);
    })
    (λ other e. never e))))

pub is-placed : (c : Control) → Placed c → sound_control c ≡ true
is-placed c p =
    ⊎_elim
    (λ u. place-unfilled c p.some p.few u.0 ∙ eq-eqb c.next c.held u.1)
    (λ f. place-full c p.some p.few f.0 ∙ lt-ltb c.next c.width f.1)
    p.place

pub sound : (w : Window) → sound_window w ≡ true → Sound w
unfolding sound_window
sound w e =
    let summed = eqb (added w.levels) w.control.sum in
    let topped = eqb (greatest w.levels) w.control.top in
    let cleared = eqb (greatest (drop w.control.held w.levels)) 0 in
    let rest = and_right (sound_control w.control) (and summed (and topped cleared)) e in
    let last = and_right summed (and topped cleared) rest in
    record {
      placed = placed w.control (and_left (sound_control w.control) (and summed (and topped cleared)) e);
      sum = eqb-true _ _ (and_left summed (and topped cleared) rest);
      top = eqb-true _ _ (and_left topped cleared last);
      unused = eqb-true _ _ (and_right topped cleared last);
    }

pub is-sound : (w : Window) → Sound w → sound_window w ≡ true
unfolding sound_window
is-sound w s =
    simp (
      is-placed w.control s.placed,
      eq-eqb (added w.levels) w.control.sum s.sum,
      eq-eqb (greatest w.levels) w.control.top s.top,
      eq-eqb (greatest (drop w.control.held w.levels)) 0 s.unused,
    )

module _ (c : Control) (p : Placed c) where
  pub held-le : c.held ≤ c.width
  held-le = ⊎_elim (λ u. omega (arith, u.0)) (λ f. omega (arith, f.0)) p.place

  pub next_le : c.next ≤ c.held
  next_le = ⊎_elim (λ u. omega (arith, u.1)) (λ f. omega (arith, f.0, f.1)) p.place

  pub next-below : c.next < c.width
  next-below = ⊎_elim (λ u. omega (arith, u.0, u.1)) (λ f. f.1) p.place

-- the last test, where the others passed
pub unused-tested : (w : Window) → sound_control w.control ≡ true → added w.levels ≡ w.control.sum → greatest w.levels ≡ w.control.top →
    sound_window w ≡ eqb (greatest (drop w.control.held w.levels)) 0
unfolding sound_window
unused-tested w control sum top = simp (control, eq-eqb (added w.levels) w.control.sum sum, eq-eqb (greatest w.levels) w.control.top top)
