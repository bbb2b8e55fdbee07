-- By the contract of wing_meters' `reading` the answer and the window are those of `reading_of`, of which `reading_call` says what is promised, as window and
-- reading are in the range of their types.
use mathlib.Core.Path.{◌≡◌, ap, ◌∙◌}
use borrow.Author.Rules.{rules}
use mir.Syntax.{w16}
use mir.Val.{to_z, of_z}
use Rattle.wing_meters.specs.Calls.{reading_of}
use Rattle.wing_meters.proofs.Types.{window-typed}
use Rattle.promises.proofs.Windows.{reading_call}
use Rattle.promises.proofs.meters.reading.Goals as goal

pub returns : goal.returns
returns c =
    let a = c.args in
    let k : to_z w16 (of_z w16 a.x) ≡ a.x = search rules in
    rw (c.reading.ensures ∙ ap (reading_of a.w) k) (reading_call a.w a.x (window-typed a.w _ c.well_formed.0) c.ranges.x.sfits)
