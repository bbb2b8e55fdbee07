-- Each return is a case of `judged_as` (Texts/Judged): out of form, not above the id before, or by the value.
use mathlib.Core.Path.{◌∙◌}
use Rattle.wing_node.proofs.Refusals.{handed-on}
use Rattle.wing_listing.specs.Steps.{LineSays, id_before}
use Rattle.wing_listing.proofs.Texts.Judged.{value-from, value-formed, judged-off, judged-low, judged-value}
use Rattle.wing_listing.proofs.line.judge.Goals as goal
use Rattle.wing_listing.proofs.line.judge.Goals.{Then-not-rises, Else-not-rises}

says : (c : Else-not-rises) → LineSays c.in_ok-l.l c.args.s.now
says c = rw c.in_ok-l.ensures.ok_part at c.line_in.ensures

pub returns-in_err-l : goal.returns-in_err-l
returns-in_err-l c =
    let e = c.in_err-l.ensures in
    handed-on _ _ c.from_residual.ensures.1 ∙ judged-off (id_before c.args.before) c.args.s.now (rw e.ok_part at c.line_in.ensures) c.in_err-l.field-0.0 (rw e.ok_part at e.value)

pub returns-then-not-rises : goal.returns-then-not-rises
returns-then-not-rises c =
    judged-low (id_before c.args.before) c.args.s.now c.in_ok-l.l (rw c.in_ok-l.ensures.ok_part at c.line_in.ensures) c.rises.result c.rises.ensures c.if-not-rises.true

pub slice_bounds-value_fault-count : goal.slice_bounds-value_fault-count
slice_bounds-value_fault-count c = value-from c.args.s.now c.in_ok-l.l (says c)

pub slice_bounds-value_fault-start : goal.slice_bounds-value_fault-start
slice_bounds-value_fault-start c = value-from c.args.s.now c.in_ok-l.l (says (goal.at.slice_bounds-value_fault-start c).Else-not-rises)

pub value_fault-requires : goal.value_fault-requires
value_fault-requires c = value-formed c.args.s.now c.in_ok-l.l (says (goal.at.value_fault-requires c).Else-not-rises)

pub returns-in_err-value_fault : goal.returns-in_err-value_fault
returns-in_err-value_fault c =
    handed-on _ _ c.from_residual-in_err-value_fault.ensures.1 ∙
    judged-value (id_before c.args.before) c.args.s.now c.in_ok-l.l (says (goal.at.returns-in_err-value_fault c).Else-not-rises) c.rises.result c.rises.ensures c.if-not-rises.false _ c.in_err-value_fault.ensures

pub returns : goal.returns
returns c =
    judged-value (id_before c.args.before) c.args.s.now c.in_ok-l.l (says (goal.at.returns c).Else-not-rises) c.rises.result c.rises.ensures c.if-not-rises.false _ c.in_ok-value_fault.ensures
