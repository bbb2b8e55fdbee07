-- The invariant: the bytes from the place on are all 0 exactly if those joined so far are and those that are left are; a turn joins one more
-- (`one_more`).
use native.Mathlib.Omega.{arith}
use Prim.Native.Nat.{◌-◌}
use mathlib.Core.Path.{◌≡◌, sym, ◌∙◌, ap}
use lib.ListN.{length, take, drop, length-drop}
use lib.Seq.{take_all}
use Rattle.wing_wire.specs.State.{zeros}
use Rattle.wing_wire.proofs.Reading.Zeros.{one_more, no_more, drop_least}
use Rattle.wing_wire.proofs.state.zeros_from.Goals as goal

pub loop-b-preserved : goal.loop-b-preserved
loop-b-preserved c = c.loop-b.invariant ∙ one_more _ c.loop-b.b-index c.loop-b.bits c.loop-b-test.true

pub returns : goal.returns
returns c =
    let s = c.args.store.now in
    let k = c.min.result in
    let rest : take (length s - k) (drop k s) ≡ drop k s = take_all (length s - k) (drop k s) (omega (arith, length-drop k s)) in
    let from : drop k s ≡ drop c.args.at s = rw c.min.ensures (drop_least c.args.at s) in
    sym (c.loop-b.invariant ∙ no_more _ c.loop-b.b-index c.loop-b.bits c.loop-b-test.false) ∙ ap zeros (rest ∙ from)
