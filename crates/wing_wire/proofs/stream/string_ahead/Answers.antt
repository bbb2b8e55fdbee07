-- The invariant: the inner units from i on give what those from the start on give; a turn stores one (`string-turn`), and the loop ends at the first
-- byte that is none or after the last (`string-stops`, `string-ends`).
use borrow.Author.Rules.{rules}
use mathlib.Core.Path.{refl, sym, ◌∙◌}
use native.Mathlib.Omega.{arith}
use Rattle.wing_wire.proofs.Reading.Inners.{inner-more, string-turn, string-stops, string-ends}
use Rattle.wing_wire.proofs.stream.string_ahead.Goals as goal

pub loop-i-init : goal.loop-i-init
loop-i-init c = (refl, refl)

pub overflow_sub-l : goal.overflow_sub-l
overflow_sub-l c =
    omega (arith, inner-more _ _ (sym c.is_inner.ensures ∙ c.if-is_inner.true))

pub loop-i-preserved : goal.loop-i-preserved
loop-i-preserved c =
    let inner = sym c.is_inner.ensures ∙ c.if-is_inner.true in
    (search rules, c.loop-i.invariant.1 ∙ string-turn _ _ _ _ _ c.loop-i-test.true inner ∙ rw (c.put.ensures, c.collected.ensures))

pub returns-after-loop-i : goal.returns-after-loop-i
returns-after-loop-i c = sym (c.loop-i.invariant.1 ∙ string-ends _ _ _ _ _ c.loop-i-test.false)

pub returns-else-is_inner : goal.returns-else-is_inner
returns-else-is_inner c = sym (c.loop-i.invariant.1 ∙ string-stops _ _ _ _ _ c.loop-i-test.true (sym c.is_inner.ensures ∙ c.if-is_inner.false))
