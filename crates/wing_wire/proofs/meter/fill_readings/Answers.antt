-- The invariant: the first i readings of the packet stand at the front of out, and the rest of out is as it was; a turn puts one more
-- (`one-reading`), the two bytes of the field there by the library's joining of them.
use borrow.Author.Rules.{rules}
use Prim.Native.Nat.{◌+◌, ◌*◌, ◌-◌, ◌≤◌}
use mathlib.Core.Path.{◌≡◌, refl, sym, ap, ◌∙◌}
use mathlib.Core.List.{◌∷◌, []}
use native.Mathlib.Omega.{arith}
use lib.ListN.{length, drop, get_or, length-drop}
use mir.Syntax.{w16}
use mir.Val.{to_z, of_z}
use Rattle.wing_node.specs.Digits.{number_in, number_from}
use Rattle.wing_node.specs.Field.{big}
use Rattle.wing_node.specs.Signed.{signed}
use Rattle.wing_node.proofs.Numerals.Placed.{field-whole, two_bytes}
use Rattle.wing_node.proofs.Numerals.Signs.{reads}
use Rattle.wing_wire.specs.Meter.{readings}
use Rattle.wing_wire.proofs.Writing.Packets.{readings-length, reading-at, one-reading}
use Rattle.wing_wire.proofs.meter.fill_readings.Goals as goal

pub loop-i-preserved : goal.loop-i-preserved
unfolding number_in number_from
loop-i-preserved c =
    let a = c.args in
    let p = a.packet.now in
    let i = c.loop-i.i in
    let at = 4 + 2 * i in
    let v : to_z w16 (of_z w16 c.from_be_bytes.result) ≡ c.from_be_bytes.result = search rules in
    let whole : 2 ≤ length p - at = omega arith in
    let bytes = field-whole 2 p at whole ∙ ap big (two_bytes p at whole) in
    let number = big (get_or p at 0 ∷ get_or p (at + 1) 0 ∷ []) in
    let joined : get_or p at 0 * 256 + get_or p (at + 1) 0 ≡ number = omega arith in
    let r = c.from_be_bytes.ensures ∙ ap (to_z w16) joined ∙ reads w16 refl number ∙ ap (signed 15) (sym bytes) ∙ reading-at p i (omega arith) in
    let l = readings-length (drop 4 p) in (
      search rules,
      rw (v, r, c.loop-i.invariant.1) (one-reading (readings (drop 4 p)) a.out.now i (omega (arith, length-drop 4 p)) (omega arith)),
    )

pub returns : goal.returns
returns c =
    let e : c.loop-i.i ≡ c.args.count = omega arith in
    rw e at c.loop-i.invariant.1
