-- In both branches `places` counts the digits of what `unsigned_abs` gives and `put_digits` puts them: with the sign, x's decimal (`from_zero`, `below-zero`).
use mathlib.Core.Path.{◌≡◌, ◌∙◌, ap}
use Prim.Native.Nat.{◌+◌, ◌-◌, ◌≤◌}
use native.Mathlib.Omega.{arith}
use lib.IntN.{nat_abs}
use lib.ListN.{length, length-set}
use mir.Facts.{to_z-of_z}
use Rattle.wing_node.specs.Bytes.{placed}
use Rattle.wing_node.specs.Decimal.{decimal, last_digits}
use Rattle.wing_node.proofs.Arrays.{placed-cons}
use Rattle.wing_node.proofs.Numerals.Spelled.{length_some, length-last_digits}
use Rattle.wing_node.proofs.Numerals.Answers.{few, from_zero, below-zero, put-there, put-not}
use Rattle.wing_node.proofs.value.put_decimal.Goals as goal

pub put_digits-requires : goal.put_digits-requires
put_digits-requires c =
    let l = length-set c.args.out.now c.args.at 0x2d in
    omega (arith, c.if-k-room.true, c.left-room.ensures)

pub returns-then-k-room : goal.returns-then-k-room
returns-then-k-room c =
    let x = c.args.x in
    let out = c.args.out.now in
    let at = c.args.at in
    let n = c.unsigned_abs-n.result in
    let k = c.places-k.result in
    let t = rw (to_z-of_z c.ranges.x) at c.if-x-lt0.true in
    let d = below-zero x n k c.places-k.ensures (c.unsigned_abs-n.ensures.value ∙ ap nat_abs (to_z-of_z c.ranges.x)) t in
    let l : k + 1 ≡ length (decimal x) = omega (arith, ap length d, length-last_digits k n) in
    let h : k + 1 ≤ length out - at = omega (arith, c.if-k-room.true, c.left-room.ensures) in
    (l, c.put_digits.ensures ∙ placed-cons out at 0x2d (last_digits k n) (omega arith) ∙ ap (placed out at) d ∙ put-there (decimal x) out at (omega arith))

pub overflow_add-result-then-x-lt0 : goal.overflow_add-result-then-x-lt0
overflow_add-result-then-x-lt0 c =
    let h : c.places-k.result ≤ 10 = few c.args.x c.ranges.x c.unsigned_abs-n.result c.places-k.result (c.unsigned_abs-n.ensures.value ∙ ap nat_abs (to_z-of_z c.ranges.x)) c.places-k.ensures in
    omega arith

pub returns-then-x-lt0 : goal.returns-then-x-lt0
returns-then-x-lt0 c =
    let x = c.args.x in
    let out = c.args.out.now in
    let at = c.args.at in
    let n = c.unsigned_abs-n.result in
    let k = c.places-k.result in
    let t = rw (to_z-of_z c.ranges.x) at c.if-x-lt0.true in
    let d = below-zero x n k c.places-k.ensures (c.unsigned_abs-n.ensures.value ∙ ap nat_abs (to_z-of_z c.ranges.x)) t in
    let l : k + 1 ≡ length (decimal x) = omega (arith, ap length d, length-last_digits k n) in
    (l, put-not (decimal x) out at (omega (arith, c.if-k-room.false, c.left-room.ensures)))

pub put_digits-requires-then-k-room-2 : goal.put_digits-requires-then-k-room-2
put_digits-requires-then-k-room-2 c = omega (arith, c.if-k-room-2.true, c.left-room.ensures, c.places-k.ensures, length_some c.unsigned_abs-n.result)

pub returns-then-k-room-2 : goal.returns-then-k-room-2
returns-then-k-room-2 c =
    let x = c.args.x in
    let out = c.args.out.now in
    let at = c.args.at in
    let n = c.unsigned_abs-n.result in
    let k = c.places-k.result in
    let t = rw (to_z-of_z c.ranges.x) at c.if-x-lt0.false in
    let d = from_zero x n k c.places-k.ensures (c.unsigned_abs-n.ensures.value ∙ ap nat_abs (to_z-of_z c.ranges.x)) t in
    let l : k ≡ length (decimal x) = omega (arith, ap length d, length-last_digits k n) in
    (l, c.put_digits-then-k-room-2.ensures ∙ ap (placed out at) d ∙ put-there (decimal x) out at (omega (arith, c.if-k-room-2.true, c.left-room.ensures)))

pub returns-else-k-room-2 : goal.returns-else-k-room-2
returns-else-k-room-2 c =
    let x = c.args.x in
    let out = c.args.out.now in
    let at = c.args.at in
    let n = c.unsigned_abs-n.result in
    let k = c.places-k.result in
    let t = rw (to_z-of_z c.ranges.x) at c.if-x-lt0.false in
    let d = from_zero x n k c.places-k.ensures (c.unsigned_abs-n.ensures.value ∙ ap nat_abs (to_z-of_z c.ranges.x)) t in
    let l : k ≡ length (decimal x) = omega (arith, ap length d, length-last_digits k n) in
    (l, put-not (decimal x) out at (omega (arith, c.if-k-room-2.false, c.left-room.ensures)))
