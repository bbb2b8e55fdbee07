-- The invariant: the first i bytes of s stand over the front of out; a turn copies one more (`over-turn`), and past the shorter of the two nothing
-- would change (`over-least`).
use mathlib.Core.Path.{◌≡◌, ◌∙◌, ap}
use mathlib.Core.List.{List}
use Prim.Native.Nat.{ℕ, ◌<◌, min}
use native.Mathlib.Omega.{arith}
use lib.ListN.{length, take, get_or, set, length-set}
use Rattle.wing_wire.specs.Reader.{over}
use Rattle.wing_wire.proofs.Reading.Overs.{over-turn, over-least}
use Rattle.wing_wire.proofs.reader.copy_front.Goals as goal

pub loop-i-preserved : goal.loop-i-preserved
loop-i-preserved c =
    let args = c.args in
    let i = c.loop-i.i in
    let s = args.s.now in
    let within : i < length s = omega (arith, c.min-most.ensures, c.min.ensures) in
    (simp length-set c.loop-i.invariant.0, ap (λ (d : List ℕ). set d i (get_or s i 0)) c.loop-i.invariant.1 ∙ over-turn s args.out.now i within)

pub returns : goal.returns
returns c =
    let args = c.args in
    let all : c.loop-i.i ≡ min (min args.n (length args.s.now)) (length args.out.now) = omega (arith, c.min-most.ensures, c.min.ensures) in
    c.loop-i.invariant.1 ∙ ap (λ (k : ℕ). over (take k args.s.now) args.out.now) all ∙ over-least args.n args.s.now args.out.now
