-- The invariant: laying the pairs of the bytes left from the place reached on gives what laying all gives; a turn lays one (`pairs-turn`).
use Prim.Native.Nat.{◌+◌, ◌*◌}
use mathlib.Core.Path.{refl, sym, ap, ◌∙◌}
use native.Mathlib.Omega.{arith}
use lib.ListN.{length-set}
use lib.Seq.{sets}
use Rattle.wing_listing.proofs.Printing.Pairs.{pairs-turn, pairs-none, pairs-all}
use Rattle.wing_listing.proofs.hex.lay_pairs.Goals as goal

pub loop-i-init : goal.loop-i-init
loop-i-init c =
    let a = c.args in
    (refl, pairs-all a.out.now a.s.now a.at)

pub hex_digit-requires : goal.hex_digit-requires
hex_digit-requires c = omega (arith, c.type_inv.s c.loop-i.i)

pub bounds-out-at-in-loop-i : goal.bounds-out-at-in-loop-i
bounds-out-at-in-loop-i c = simp length-set (omega arith)

pub loop-i-preserved : goal.loop-i-preserved
loop-i-preserved c =
    let a = c.args in
    let h = c.loop-i-test.true in
    (simp length-set c.loop-i.invariant.0, pairs-turn c.loop-i.out a.s.now a.at c.loop-i.i c.hex_digit.result c.hex_digit-in-loop-i.result h c.hex_digit.ensures c.hex_digit-in-loop-i.ensures ∙ c.loop-i.invariant.1)

pub returns : goal.returns
returns c =
    let a = c.args in
    sym (ap (sets c.loop-i.out (a.at + 2 * c.loop-i.i)) (pairs-none a.s.now c.loop-i.i c.loop-i-test.false)) ∙ c.loop-i.invariant.1
