-- After a minus sign what `negative_in` says (`int-minus`), else what `natural_in` does (`int-plain`).
use mathlib.Core.Path.{sym, ap, ◌∙◌}
use borrow.Author.Tests.{eqb-true, eqb-false}
use Rattle.wing_listing.specs.Integers.{first}
use Rattle.wing_listing.specs.Steps.{negative_read}
use Rattle.wing_listing.proofs.Texts.Numbers.{minus-first, int-minus, int-plain}
use Rattle.wing_listing.proofs.integer.integer_in.Goals as goal

pub returns-in-Some : goal.returns-in-Some
returns-in-Some c =
    let s = c.args.s.now in
    let e = c.in-Some.ensures.cases in
    c.negative_in.ensures ∙ ap negative_read e.1 ∙ int-minus s (eqb-true (first s) 0x2d (sym (minus-first s) ∙ e.0))

pub returns-in-None : goal.returns-in-None
returns-in-None c =
    let s = c.args.s.now in
    c.natural_in.ensures ∙ int-plain s (eqb-false (first s) 0x2d (sym (minus-first s) ∙ c.in-None.ensures.cases))
