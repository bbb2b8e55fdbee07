-- A sound window's sum and number are in range.
use mathlib.Core.Path.{◌≡◌, sym, ◌∙◌}
use native.Mathlib.Omega.{arith}
use borrow.Author.Rules.{rules}
use lib.ListN.{length}
use Rattle.wing_meters.specs.Window.{window}
use Rattle.wing_meters.proofs.Soundness.{sound}
use Rattle.wing_meters.proofs.Windows.{in-range}
use Rattle.wing_meters.proofs.sound.kept_up.Goals as goal

pub invariant_of-result : goal.invariant_of-result
invariant_of-result c =
    let w = window c.args.c c.args.levels.now in
    let size : length c.args.levels.now ≡ 256 = search rules in
    record { in_range = in-range w (sound w (sym c.is_sound_lent.ensures ∙ c.if-is_sound_lent.true)) size (λ k h. omega (arith, c.fits-levels k)) }
