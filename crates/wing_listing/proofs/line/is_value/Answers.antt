-- Each return is a side of `is_value`.
use mathlib.Core.Path.{◌≡◌, ap, ◌∙◌}
use borrow.Author.Rules.{rules}
use Rattle.std.specs.Option.{is_some}
use borrow.Author.Tests.{eq-eqb, ne_eqb}
use Rattle.wing_listing.specs.Reading.{is_value}
use Rattle.wing_listing.proofs.Texts.Values.{read-formed}
use Rattle.wing_listing.proofs.line.is_value.Goals as goal

pub returns-then-kind-eq105 : goal.returns-then-kind-eq105
unfolding is_value
returns-then-kind-eq105 c =
    let some : c.is_some.result ≡ is_some c.integer_in.result = search rules in
    simp (eq-eqb _ _ c.if-kind-eq105.true) (some ∙ ap is_some c.integer_in.ensures ∙ read-formed c.args.s.now)

pub returns-then-s-eq8 : goal.returns-then-s-eq8
unfolding is_value
returns-then-s-eq8 c = simp (ne_eqb _ _ c.if-kind-eq105.false, eq-eqb _ _ c.if-kind-eq102.true, eq-eqb _ _ c.if-s-eq8.true) c.are_pairs.ensures

pub returns-then-kind-eq102 : goal.returns-then-kind-eq102
unfolding is_value
returns-then-kind-eq102 c = simp (ne_eqb _ _ c.if-kind-eq105.false, eq-eqb _ _ c.if-kind-eq102.true, ne_eqb _ _ c.if-s-eq8.false)

pub returns-then-kind-eq115 : goal.returns-then-kind-eq115
unfolding is_value
returns-then-kind-eq115 c = simp (ne_eqb _ _ c.if-kind-eq105.false, ne_eqb _ _ c.if-kind-eq102.false, eq-eqb _ _ c.if-kind-eq115.true) c.are_pairs-then-kind-eq115.ensures

pub returns : goal.returns
unfolding is_value
returns c = simp (ne_eqb _ _ c.if-kind-eq105.false, ne_eqb _ _ c.if-kind-eq102.false, ne_eqb _ _ c.if-kind-eq115.false)
