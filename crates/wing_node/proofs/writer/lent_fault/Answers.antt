-- Each return is a branch of `lent_fault`; what `fields_fault` says after the names' fault is the rest of it (`lent-names`).
use mathlib.Core.Path.{◌≡◌, ◌∙◌}
use native.Mathlib.Omega.{arith}
use borrow.Author.Tests.{lt-ltb, le-ltb}
use Rattle.wing_node.specs.Refusal.{first_fault, text_fault}
use Rattle.wing_node.specs.Writer.{lent, lent_fault}
use Rattle.wing_node.proofs.Bodies.Checks.{lent-names}
use Rattle.wing_node.proofs.writer.lent_fault.Goals as goal

pub returns-then-name-gt255 : goal.returns-then-name-gt255
unfolding lent_fault
returns-then-name-gt255 c = simp (lt-ltb _ _ c.if-name-gt255.true)

pub returns-then-long-gt255 : goal.returns-then-long-gt255
unfolding lent_fault
returns-then-long-gt255 c = simp (le-ltb _ _ c.if-name-gt255.false, lt-ltb _ _ c.if-long-gt255.true)

pub text_fault-requires : goal.text_fault-requires
text_fault-requires c = omega (arith, c.if-name-gt255.false)

pub text_fault-requires-2 : goal.text_fault-requires-2
text_fault-requires-2 c = omega (arith, c.if-long-gt255.false)

pub returns : goal.returns
returns c =
    let args = c.args in
    let names : c.and-names.result ≡ first_fault (text_fault args.name.now) (text_fault args.long_name.now) = c.and-names.ensures ∙ (λ j. first_fault (c.text_fault.ensures j) (c.text_fault-2.ensures j)) in
    rw names at c.fields_fault.ensures ∙ lent-names args.d (lent args.name.now args.long_name.now args.items.now) c.if-name-gt255.false c.if-long-gt255.false
