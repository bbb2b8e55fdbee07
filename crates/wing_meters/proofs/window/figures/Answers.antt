-- What is kept up gives the figures of the readings that are held (`kept-told`).
use mathlib.Core.Bool.{true, false}
use mathlib.Core.Path.{◌≡◌, sym, ap, ◌∙◌}
use lib.ListN.{length}
use Rattle.wing_meters.specs.Window.{sound_window}
use Rattle.wing_meters.specs.Kept.{told_kept}
use Rattle.wing_meters.specs.Calls.{figures_answer}
use Rattle.wing_meters.proofs.Soundness.{sound}
use Rattle.wing_meters.proofs.Windows.{kept-told}
use borrow.Author.Rules.{rules}
use Rattle.wing_meters.proofs.window.figures.Goals as goal

pub returns-in-Some : goal.returns-in-Some
unfolding figures_answer
returns-in-Some c =
    let w = c.args.w in
    let size : length w.levels ≡ 256 = search rules in
    let e : sound_window w ≡ true = c.in-Some.ensures.0 in
    c.tell.ensures ∙ ap told_kept c.in-Some.ensures.1 ∙ (sym (kept-told w (sound w e) size) ∙ sym (simp e))

pub returns-in-None : goal.returns-in-None
unfolding figures_answer
returns-in-None c =
    let w = c.args.w in
    let e : sound_window w ≡ false = c.in-None.ensures in
    sym (simp e)
