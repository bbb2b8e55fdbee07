-- The invariant: the first i bytes of the pairs are laid; a turn lays one more (`from-turn`).
use Prim.Native.Nat.{◌+◌, ◌*◌}
use mathlib.Core.Path.{refl, ap, ◌∙◌}
use native.Mathlib.Omega.{arith}
use borrow.Author.Rules.{rules}
use lib.ListN.{length-set}
use lib.Seq.{sets, take_all}
use Rattle.wing_listing.specs.Hex.{is_hex, from_pairs}
use Rattle.wing_listing.proofs.Texts.Drops.{every-at}
use Rattle.wing_listing.proofs.Texts.Hexes.{length_from, pairs-hex, from-turn}
use Rattle.wing_listing.proofs.hex.lay_bytes.Goals as goal

pub loop-i-init : goal.loop-i-init
loop-i-init c = (refl, refl)

pub hex_value-requires : goal.hex_value-requires
hex_value-requires c =
    let s = c.args.s.now in
    every-at is_hex s (2 * c.loop-i.i) (omega arith) (pairs-hex s c.requires.0).0

pub hex_value-requires-in-loop-i : goal.hex_value-requires-in-loop-i
hex_value-requires-in-loop-i c =
    let s = c.args.s.now in
    every-at is_hex s (2 * c.loop-i.i + 1) (omega arith) (pairs-hex s c.requires.0).0

pub overflow_add-out-in-loop-i : goal.overflow_add-out-in-loop-i
overflow_add-out-in-loop-i c = let f = length_from c.args.s.now in search rules

pub bounds-out-at : goal.bounds-out-at
bounds-out-at c = omega (arith, length_from c.args.s.now)

pub loop-i-preserved : goal.loop-i-preserved
loop-i-preserved c =
    let a = c.args in
    (simp length-set c.loop-i.invariant.0, from-turn a.out.now c.loop-i.out a.s.now a.at c.loop-i.i c.hex_value.result c.hex_value-in-loop-i.result c.loop-i-test.true c.hex_value.ensures.0 c.hex_value-in-loop-i.ensures.0 c.loop-i.invariant.1)

pub returns : goal.returns
returns c =
    let a = c.args in
    c.loop-i.invariant.1 ∙ ap (sets a.out.now a.at) (take_all c.loop-i.i (from_pairs a.s.now) (omega (arith, length_from a.s.now, c.loop-i-test.false)))
