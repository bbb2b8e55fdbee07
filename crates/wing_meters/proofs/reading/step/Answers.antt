-- The sum and the largest are kept up (`sum-taking`, `top-taking`), so that they are those of the levels after it.
use Prim.Native.Nat.{◌<◌}
use mathlib.Core.Path.{◌≡◌, sym, ap, ◌∙◌}
use native.Mathlib.Omega.{arith}
use lib.ListN.{length, length-set}
use mir.Syntax.{w16}
use mir.Val.{to_z, of_z}
use Rattle.wing_meters.specs.Level.{level_of}
use Rattle.wing_meters.specs.Window.{window, taking}
use Rattle.wing_meters.proofs.Soundness.{sound, next-below}
use Rattle.wing_meters.proofs.Windows.{next-in, sum-taking, leaving-le, top-taking, in-range, sound-taking}
use Rattle.wing_meters.proofs.Sums.{set-le}
use borrow.Author.Rules.{rules}
use Rattle.wing_meters.proofs.reading.step.Goals as goal

pub bounds-levels-at : goal.bounds-levels-at
bounds-levels-at c =
    let a = c.args in
    let w = window a.kept.control a.levels.now in
    let s = sound w c.requires in
    let size : length a.levels.now ≡ 256 = search rules in
    omega (arith, next-in w s size)

pub bounds-levels-at-2 : goal.bounds-levels-at-2
bounds-levels-at-2 c =
    let a = c.args in
    let w = window a.kept.control a.levels.now in
    let s = sound w c.requires in
    let size : length a.levels.now ≡ 256 = search rules in
    omega (arith, next-in w s size)

pub onward-requires : goal.onward-requires
onward-requires c =
    let a = c.args in
    let w = window a.kept.control a.levels.now in
    let s = sound w c.requires in
    let size : length a.levels.now ≡ 256 = search rules in
    next-below a.kept.control s.placed

pub top_after-requires : goal.top_after-requires
top_after-requires c =
    let a = c.args in
    let w = window a.kept.control a.levels.now in
    let s = sound w c.requires in
    let size : length a.levels.now ≡ 256 = search rules in
    top-taking w s size c.level_of-came.result

pub sum_after-requires : goal.sum_after-requires
sum_after-requires c =
    let a = c.args in
    let w = window a.kept.control a.levels.now in
    let s = sound w c.requires in
    let size : length a.levels.now ≡ 256 = search rules in
    let r = in-range w s size (λ k h. omega (arith, c.fits-levels k)) in
    (leaving-le w s size, omega arith)

pub invariant_of-result : goal.invariant_of-result
unfolding taking
invariant_of-result c =
    let a = c.args in
    let w = window a.kept.control a.levels.now in
    let s = sound w c.requires in
    let size : length a.levels.now ≡ 256 = search rules in
    let k : to_z w16 (of_z w16 a.x) ≡ a.x = search rules in
    let v : c.level_of-came.result ≡ level_of a.x = c.level_of-came.ensures ∙ ap level_of k in
    let low : c.level_of-came.result < 65536 = search rules in
    let most = set-le a.levels.now a.kept.control.next (level_of a.x) 65535 (λ k h. omega (arith, c.fits-levels k)) (omega arith) in
    let range = in-range (taking w a.x) (sound-taking w s size a.x) (length-set a.levels.now a.kept.control.next (level_of a.x) ∙ size) most in
    rw
    (c.grown.ensures, c.onward.ensures, c.top_after.ensures, c.sum_after.ensures, v, sym (sum-taking w s size (level_of a.x)))
    (record { in_range = range })

pub returns : goal.returns
unfolding taking
returns c =
    let a = c.args in
    let w = window a.kept.control a.levels.now in
    let s = sound w c.requires in
    let size : length a.levels.now ≡ 256 = search rules in
    let k : to_z w16 (of_z w16 a.x) ≡ a.x = search rules in
    let v : c.level_of-came.result ≡ level_of a.x = c.level_of-came.ensures ∙ ap level_of k in
    rw
    (c.grown.ensures, c.onward.ensures, c.top_after.ensures, c.sum_after.ensures, v, sym (sum-taking w s size (level_of a.x)))
