-- The invariant: the window so far is sound; from it the readings that are left give the window and the rows that all readings give from the first; what
-- stands behind the rows is as it was.
use borrow.Author.Rules.{rules}
use Prim.Native.Nat.{◌+◌, ◌*◌, ◌≤◌}
use mathlib.Core.Path.{◌≡◌, refl, sym, ap, ◌∙◌, subst}
use mathlib.Core.List.{List}
use native.Mathlib.Omega.{arith}
use lib.IntN.{ℤ, pos}
use lib.ListN.{length, get_or}
use lib.Seq.{sets}
use Rattle.wing_meters.specs.declared.window.Window.{Window}
use mir.Syntax.{w16}
use mir.Val.{to_z, of_z}
use Rattle.wing_meters.specs.Window.{window, taking}
use Rattle.wing_meters.specs.Kept.{figures_kept}
use Rattle.wing_meters.specs.Calls.{row_of}
use Rattle.wing_meters.proofs.Follows.{Onward, onward-begins, onward-turns, onward-after, onward-rows, holds-one, length-row, row-laid}
use Rattle.wing_meters.proofs.reading.follow.Goals as goal

pub loop-i-init : goal.loop-i-init
loop-i-init c =
    let size : length c.args.levels.now ≡ 256 = search rules in
    onward-begins _ _ _ c.requires.0 size

pub step-after-requires : goal.step-after-requires
step-after-requires c = c.loop-i.invariant.sound

pub figures_in-requires : goal.figures_in-requires
figures_in-requires c =
    let a = c.args in
    let here = window c.loop-i.after.control c.loop-i.levels in
    let x = get_or a.xs.now c.loop-i.i (pos 0) in
    let k : to_z w16 (of_z w16 x) ≡ x = search rules in
    let after : window c.step-after.result.control c.step-after.new.levels ≡ taking here x = c.step-after.ensures ∙ ap (taking here) k in
    subst (λ (w : Window). 1 ≤ w.control.held) (sym after) (holds-one here x c.loop-i.invariant.sound c.loop-i.invariant.size)

pub loop-i-preserved : goal.loop-i-preserved
loop-i-preserved c =
    let a = c.args in
    let xs = a.xs.now in
    let here = window c.loop-i.after.control c.loop-i.levels in
    let x = get_or xs c.loop-i.i (pos 0) in
    let k : to_z w16 (of_z w16 x) ≡ x = search rules in
    let after : window c.step-after.result.control c.step-after.new.levels ≡ taking here x = c.step-after.ensures ∙ ap (taking here) k in
    let figures : c.copy_from_slice.new.self ≡ row_of (figures_kept c.step-after.result.control) =
    c.copy_from_slice.ensures.after ∙ c.row_of.ensures ∙ ap row_of c.figures_in.ensures in
    let row : c.copy_from_slice.new.self ≡ row_of (figures_kept (taking here x).control) =
    figures ∙ ap (λ (w : Window). row_of (figures_kept w.control)) after in
    let laid = row-laid c.loop-i.out c.copy_from_slice.new.self c.loop-i.i (ap length row ∙ length-row _) (omega (arith, c.loop-i.invariant.room, c.requires.1, c.loop-i-test.true)) in
    let first = window a.kept.control a.levels.now in
    subst (λ (o : List ℤ). Onward first xs a.out.now (window c.step-after.result.control c.step-after.new.levels) o (c.loop-i.i + 1)) (sym (laid ∙ ap (sets c.loop-i.out (5 * c.loop-i.i)) row))
    (subst
    (λ (w : Window). Onward first xs a.out.now w (sets c.loop-i.out (5 * c.loop-i.i) (row_of (figures_kept (taking here x).control))) (c.loop-i.i + 1)) (sym after)
    (onward-turns first xs a.out.now here c.loop-i.out c.loop-i.i c.loop-i.invariant x c.loop-i-test.true refl c.requires.1))

pub returns : goal.returns
returns c =
    let a = c.args in
    let first = window a.kept.control a.levels.now in
    let here = window c.loop-i.after.control c.loop-i.levels in record { levels_after = onward-after first a.xs.now a.out.now here c.loop-i.out c.loop-i.i c.loop-i.invariant c.loop-i-test.false; out_after = onward-rows first a.xs.now a.out.now here c.loop-i.out c.loop-i.i c.loop-i.invariant c.loop-i-test.false }
