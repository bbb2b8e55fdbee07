-- The invariant: the inner units from i on give what those from the start on give; a turn takes one (`number-turn`), and the loop ends at the first
-- byte that is none or after the last (`number-stops`, `number-ends`).
use mathlib.Core.Path.{sym, ◌∙◌}
use native.Mathlib.Omega.{arith}
use Rattle.wing_wire.proofs.Reading.Inners.{inner-more, number-turn, number-stops, number-ends}
use Rattle.wing_wire.proofs.stream.number_ahead.Goals as goal

pub overflow_sub-l : goal.overflow_sub-l
overflow_sub-l c = omega (arith, inner-more _ _ (sym c.is_inner.ensures ∙ c.if-is_inner.true))

pub loop-i-preserved : goal.loop-i-preserved
loop-i-preserved c =
    let inner = sym c.is_inner.ensures ∙ c.if-is_inner.true in
    c.loop-i.invariant ∙ number-turn _ _ _ _ _ c.loop-i-test.true inner ∙ rw c.shift_in-v.ensures

pub returns-after-loop-i : goal.returns-after-loop-i
returns-after-loop-i c = sym (c.loop-i.invariant ∙ number-ends _ _ _ _ _ c.loop-i-test.false)

pub returns-else-is_inner : goal.returns-else-is_inner
returns-else-is_inner c = sym (c.loop-i.invariant ∙ number-stops _ _ _ _ _ c.loop-i-test.true (sym c.is_inner.ensures ∙ c.if-is_inner.false))
