-- The invariant: the place and the bytes that the items left take are those of all (`items-extent`), and so for their strings (`items-texts`).
use mathlib.Core.Path.{◌≡◌, refl, ◌∙◌, ap, sym}
use Prim.Native.Nat.{◌+◌, ◌-◌, ◌≤◌, ◌<◌}
use native.Mathlib.Omega.{arith}
use lib.ListN.{length, drop}
use borrow.Author.Tests.{eq-eqb, ne_eqb}
use Rattle.wing_node.specs.Refusal.{first_fault}
use Rattle.wing_node.specs.Standing.{extent}
use Rattle.wing_node.specs.Definition.{items_of}
use Rattle.wing_node.proofs.Bodies.Checks.{items-extent, items-texts, no-extent, no-texts}
use Rattle.wing_node.proofs.Bodies.Faults.{first-assoc, first-none}
use Rattle.wing_node.proofs.writer.items_fault.Goals as goal

pub loop-init : goal.loop-init
loop-init c = let all : c.args.count - 0 ≡ c.args.count = omega arith in rw all (omega arith, refl)

pub returns-then-items-passed : goal.returns-then-items-passed
returns-then-items-passed c =
    let args = c.args in
    simp (ne_eqb (extent (items_of args.kind args.count) args.items.now) (length args.items.now) (λ e. omega (arith, c.loop.invariant.0)))

pub loop-preserved : goal.loop-preserved
loop-preserved c =
    let args = c.args in
    let p = c.loop.passed in
    let n = args.count - c.loop.counter in
    let s = args.items.now in
    let some : 0 < n = omega arith in
    let less : args.count - (c.loop.counter + 1) ≡ n - 1 = omega arith in
    let e = c.check_item-item.ensures.0 in
    rw less (
      rw e (sym (items-extent args.kind n p.at s some) ∙ c.loop.invariant.0),
      rw (e, c.and.ensures, c.check_item-item.ensures.1) (first-assoc p.fault _ _ ∙ ap (first_fault p.fault) (sym (items-texts args.kind n p.at s some)) ∙ c.loop.invariant.1),
    )

pub returns-then-passed-items : goal.returns-then-passed-items
returns-then-passed-items c =
    let args = c.args in
    let none = no-extent args.kind (args.count - c.loop.counter) (drop c.loop.passed.at args.items.now) (omega arith) in
    simp (ne_eqb (extent (items_of args.kind args.count) args.items.now) (length args.items.now) (λ e. c.if-passed-items.true (omega (arith, c.loop.invariant.0))))

pub returns : goal.returns
returns c =
    let args = c.args in
    let rest = drop c.loop.passed.at args.items.now in
    let left = args.count - c.loop.counter in
    let ended : left ≤ 0 = omega arith in
    let none = no-extent args.kind left rest ended in
    let text = sym (first-none c.loop.passed.fault) ∙ ap (first_fault c.loop.passed.fault) (sym (no-texts args.kind left rest ended)) ∙ c.loop.invariant.1 in
    rw (eq-eqb (extent (items_of args.kind args.count) args.items.now) (length args.items.now) (omega (arith, c.loop.invariant.0, c.if-passed-items.false))) text
