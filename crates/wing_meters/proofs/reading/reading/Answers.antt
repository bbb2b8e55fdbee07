-- The window after the step is the one with the reading in it, and what is kept up of it gives its figures (`kept-told`).
use mathlib.Core.Bool.{true}
use mathlib.Core.Path.{◌≡◌, sym, ap, ◌∙◌}
use lib.ListN.{length}
use mir.Syntax.{w16}
use mir.Val.{to_z, of_z}
use Rattle.wing_meters.specs.Afresh.{figures_of}
use Rattle.wing_meters.specs.Window.{window, taking, kept_in, sound_window}
use Rattle.wing_meters.specs.Kept.{told_kept}
use Rattle.wing_meters.specs.Calls.{taken}
use Rattle.wing_meters.specs.declared.window.Window.{Window}
use Rattle.wing_meters.proofs.Soundness.{sound}
use Rattle.wing_meters.proofs.Windows.{kept-told, sound-taking}
use Rattle.wing_meters.proofs.Follows.{size-taking, reading-sound, reading-unsound}
use borrow.Author.Rules.{rules}
use Rattle.wing_meters.proofs.reading.reading.Goals as goal
use Rattle.wing_node.specs.Result.{Result}
use Rattle.std.specs.Prelude.{Option}
use Rattle.wing_meters.specs.declared.figures.Figures.{Figures}

pub step-after-requires : goal.step-after-requires
step-after-requires c = rw c.in-Some.ensures.1 c.in-Some.ensures.0

pub returns-in-Some : goal.returns-in-Some
returns-in-Some c =
    let a = c.args in
    let w = a.w in
    let size : length w.levels ≡ 256 = search rules in
    let e : sound_window w ≡ true = c.in-Some.ensures.0 in
    let k : to_z w16 (of_z w16 a.x) ≡ a.x = search rules in
    let after : window c.step-after.result.control c.step-after.new.levels ≡ taking w a.x = (rw c.in-Some.ensures.1 at c.step-after.ensures) ∙ ap (taking w) k in
    let told : told_kept (taking w a.x).control ≡ figures_of (kept_in (taking w a.x)) =
    sym (kept-told (taking w a.x) (sound-taking w (sound w e) size a.x) (size-taking w a.x size)) in
    ap (λ (t : Result (Option Figures)). taken t (window c.step-after.result.control c.step-after.new.levels)) c.tell.ensures ∙
    (ap (λ (v : Window). taken (told_kept v.control) v) after ∙
    (ap (λ (t : Result (Option Figures)). taken t (taking w a.x)) told ∙ sym (reading-sound w a.x e)))

pub returns-in-None : goal.returns-in-None
returns-in-None c =
    let a = c.args in
    sym (reading-unsound a.w a.x (c.in-None.ensures))
