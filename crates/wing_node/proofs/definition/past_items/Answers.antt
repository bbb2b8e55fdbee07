-- The invariant: the cursor past the items left is the cursor past all of them; a turn passes one (`items-turn`), or its refusal is that of all
-- (`items-stop`).
use mathlib.Core.Path.{◌≡◌, ◌∙◌, sym, ap}
use Prim.Native.Nat.{◌-◌, ◌+◌}
use native.Mathlib.Omega.{arith}
use Rattle.wing_node.specs.Refusal.{no_fault}
use Rattle.wing_node.specs.Cursor.{Cursor, cursor, after, place_of}
use Rattle.wing_node.specs.Definition.{items_of}
use Rattle.wing_node.proofs.Refusals.{handed-on}
use Rattle.wing_node.proofs.Bodies.Fields.{items-turn, items-none}
use Rattle.wing_node.proofs.Bodies.Fails.{refused-by, item-read, item-fault, items-stop}
use Rattle.wing_node.proofs.definition.past_items.Goals as goal

pub returns-in_err-read : goal.returns-in_err-read
returns-in_err-read c =
    let left = c.args.count - c.loop.counter in
    handed-on _ _ c.from_residual.ensures.1 ∙
    refused-by _ _ _ (ap (λ (k : Cursor). k.fault) c.loop.invariant ∙ items-stop c.args.kind left c.args.body.now (cursor c.loop.at no_fault) _ (omega arith) (item-fault _ _ c.in_err-read.ensures))

pub loop-preserved : goal.loop-preserved
loop-preserved c =
    let body = c.args.body.now in
    let kind = c.args.kind in
    let left = c.args.count - c.loop.counter in
    let less : c.args.count - (c.loop.counter + 1) ≡ left - 1 = omega arith in
    rw less (c.loop.invariant ∙ items-turn kind left body (cursor c.loop.at no_fault) (omega arith) ∙
    ap (λ r. after (items_of kind (left - 1)) body r.next) (item-read _ _ c.in_ok-read.ensures))

pub returns : goal.returns
returns c =
    let start = c.args in
    sym (ap place_of (c.loop.invariant ∙ items-none start.kind (start.count - c.loop.counter) start.body.now (cursor c.loop.at no_fault) (omega arith)))
