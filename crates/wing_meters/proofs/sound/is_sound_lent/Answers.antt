-- The tests are those of `sound_window`, in its order; a sound window's sum and number are in range.
use Prim.Native.Nat.{ℕ, ◌-◌, ◌≤◌}
use mathlib.Core.Bool.{true, false}
use mathlib.Core.Path.{◌≡◌, sym, ap, ◌∙◌}
use native.Mathlib.Omega.{arith}
use lib.Dec.{eqb}
use lib.ListN.{length, take, drop, length-drop}
use lib.Seq.{take_all}
use borrow.Author.Rules.{rules}
use borrow.Author.Tests.{eqb-true}
use Rattle.wing_meters.specs.Level.{added, greatest}
use Rattle.wing_meters.specs.Window.{window, sound_control, sound_window}
use Rattle.wing_meters.proofs.Soundness.{placed, held-le, unused-tested}
use Rattle.wing_meters.proofs.sound.is_sound_lent.Goals as goal
use Rattle.wing_meters.proofs.sound.is_sound_lent.Goals.{Then-greatest-c, then-sound_control, else-sound_control, then-added-c, else-added-c}

-- what the first three tests told
passed : (c : Then-greatest-c) →
    (sound_control c.args.c ≡ true) × (eqb (added c.args.levels.now) c.args.c.sum ≡ true) × (eqb (greatest c.args.levels.now) c.args.c.top ≡ true)
passed c =
    elim c.if-added-c.branch [
      | then-added-c w ↦ elim c.if-sound_control.branch [ then-sound_control v ↦ (cc, cc, cc) | else-sound_control v ↦ cc ]
      | else-added-c w ↦ cc
    ]

few : (c : Then-greatest-c) → c.args.c.held ≤ 256
few c =
    let p = placed c.args.c (passed c).0 in
    omega (arith, held-le c.args.c p, p.few)

pub slice_bounds-greatest-count : goal.slice_bounds-greatest-count
slice_bounds-greatest-count c = few (goal.at.slice_bounds-greatest-count c).Then-greatest-c

pub slice_bounds-greatest-start : goal.slice_bounds-greatest-start
slice_bounds-greatest-start c = few (goal.at.slice_bounds-greatest-start c).Then-greatest-c

pub returns-then-greatest-c : goal.returns-then-greatest-c
returns-then-greatest-c c =
    let a = c.args in
    let w = window a.c a.levels.now in
    let size : length a.levels.now ≡ 256 = search rules in
    let p = passed (goal.at.returns-then-greatest-c c).Then-greatest-c in
    let cut : take (256 - a.c.held) (drop a.c.held a.levels.now) ≡ drop a.c.held a.levels.now =
    take_all (256 - a.c.held) (drop a.c.held a.levels.now) (omega (arith, length-drop a.c.held a.levels.now)) in
    let tested =
    ap (λ (n : ℕ). eqb n 0) (c.greatest-then-greatest-c.ensures ∙ ap greatest cut) ∙
    sym (unused-tested w p.0 (eqb-true _ _ p.1) (eqb-true _ _ p.2)) in
    tested

pub returns-else-greatest-c : goal.returns-else-greatest-c
unfolding sound_window
returns-else-greatest-c c =
    let off : c.if-added-c.value ≡ false = cc in
    let wrong : false ≡ sound_window (window c.args.c c.args.levels.now) =
    elim c.if-added-c.branch [
      | then-added-c w ↦ elim c.if-sound_control.branch [
        | then-sound_control v ↦
            let one : sound_control c.args.c ≡ true = cc in
            let two : eqb (added c.args.levels.now) c.args.c.sum ≡ true = cc in
            let three : eqb (greatest c.args.levels.now) c.args.c.top ≡ false = cc in
            simp (one, two, three)
        | else-sound_control v ↦ cc
      ]
      | else-added-c w ↦ elim c.if-sound_control.branch [
        | then-sound_control v ↦
            let one : sound_control c.args.c ≡ true = cc in
            let two : eqb (added c.args.levels.now) c.args.c.sum ≡ false = cc in
            simp (one, two)
        | else-sound_control v ↦
            let one : sound_control c.args.c ≡ false = cc in
            simp one
      ]
    ] in
    off ∙ wrong
