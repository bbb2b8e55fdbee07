-- The invariant: the bytes so far are laid escaped, in at most twice as many; a turn lays one more (`escaped-df`, `escaped-other`), and the law
-- `then` joins it on.
use lib.Seq.{take_all}
use borrow.Author.Rules.{rules}
use Prim.Native.Nat.{◌<◌}
use mathlib.Core.Path.{◌≡◌}
use native.Mathlib.Omega.{arith}
use lib.ListN.{length, take}
use Rattle.wing_wire.specs.Write.{escaped}
use Rattle.wing_wire.proofs.Writing.Lays.{then, nothing, escaped-df, escaped-other}
use Rattle.wing_wire.proofs.laying.lay_escaped.Goals as goal
use Rattle.wing_wire.proofs.laying.lay_escaped.Goals.{then-b, else-b}

pub loop-b-init : goal.loop-b-init
unfolding escaped
loop-b-init c = (search rules, search rules, nothing _ _)

pub loop-b-preserved : goal.loop-b-preserved
loop-b-preserved c =
    let s = c.args.bytes.now in
    let i = c.loop-b.b-index in
    let h : i < length s = omega arith in
    elim c.if-b.branch [
      | then-b w ↦ rw (w.out-is, w.next-is) (search rules, search rules, rw (escaped-df s i h w.if-b.true) (then c.loop-b.invariant.2 (then c.lay-next.ensures w.lay-next-then-b.ensures)))
      | else-b w ↦ rw (w.out-is, w.next-is) (search rules, search rules, rw (escaped-other s i h w.if-b.false) (then c.loop-b.invariant.2 c.lay-next.ensures))
    ]

pub returns : goal.returns
returns c =
    let s = c.args.bytes.now in
    let e : take c.loop-b.b-index s ≡ s = take_all c.loop-b.b-index s (omega arith) in
    record { laid = rw e at c.loop-b.invariant.2; upper_bound = omega arith }
