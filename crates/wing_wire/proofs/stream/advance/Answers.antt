-- The invariant: the run from here over the bytes left is the whole run; a turn takes one unit and the inner units after it (`once-whole`), and at
-- the end nothing is left to run (`whole-ends`).
use borrow.Author.Rules.{rules}
use mathlib.Core.Path.{refl, sym, ◌∙◌, ap}
use Rattle.wing_wire.specs.Stream.{follow_of, advance_of}
use Rattle.wing_wire.proofs.Reading.Plains.{whole, once-whole, once-less, whole-ends}
use Rattle.wing_wire.proofs.stream.advance.Goals as goal

pub loop-t-init : goal.loop-t-init
loop-t-init c = (refl, refl)

pub loop-t-smaller : goal.loop-t-smaller
loop-t-smaller c =
    let on = sym c.is_on.ensures ∙ c.loop-t-test.true in
    rw (← c.step-g.ensures) at (once-less c.loop-t.t c.loop-t.store c.args.bytes.now c.loop-t.i on)

pub loop-t-preserved : goal.loop-t-preserved
loop-t-preserved c =
    let on = sym c.is_on.ensures ∙ c.loop-t-test.true in
    (search rules, c.loop-t.invariant.1 ∙ once-whole c.loop-t.t c.loop-t.store _ c.loop-t.i on ∙ ap (whole _) (sym c.step-g.ensures))

pub returns : goal.returns
unfolding advance_of follow_of
returns c = sym (c.loop-t.invariant.1 ∙ whole-ends _ _ _ _ (sym c.is_on.ensures ∙ c.loop-t-test.false))
