-- Fewer than four bytes begin no row of four (`begins-short`); else `number_at` gives the number of the four bytes, and its high bits tell
-- (`ascii-word`).
use Prim.Native.Nat.{ℕ}
use mathlib.Core.Path.{sym, ◌∙◌, ap}
use native.Mathlib.Omega.{arith}
use lib.Bits.{bit_and}
use lib.Dec.{eqb}
use lib.ListN.{drop, replicate, length-drop}
use Rattle.wing_node.specs.Utf8.{◌to◌}
use Rattle.wing_node.specs.Digits.{number_in, number_from}
use Rattle.wing_node.proofs.Characters.Fronts.{begins-short}
use Rattle.wing_node.proofs.Characters.HighBits.{ascii-word}
use Rattle.wing_node.proofs.utf8.ascii_4.Goals as goal

pub returns-then-left-lt4 : goal.returns-then-left-lt4
returns-then-left-lt4 c =
    let s = c.args.s.now in
    let i = c.args.i in
    sym (begins-short (replicate 4 (0x00 to 0x7f)) (drop i s) (rw (length-drop i s) (omega arith)))

pub returns : goal.returns
unfolding number_in number_from
returns c =
    let a = c.args in
    ap (λ (x : ℕ). eqb (bit_and x 0x80808080) 0) c.number_at.ensures ∙
    ascii-word 4 a.s.now a.i (omega arith) (λ k. omega (arith, c.type_inv.s k))
