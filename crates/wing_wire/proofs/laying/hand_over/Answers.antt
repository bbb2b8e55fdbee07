-- Where out is too short nothing is written (law `short`); else the contract of `copy_front` puts the n bytes over its front, which is the whole
-- command (laws `over-whole` and `whole`).
use Prim.Native.Nat.{◌≤◌}
use mathlib.Core.Path.{◌≡◌}
use native.Mathlib.Omega.{arith}
use lib.ListN.{length, take, length-take}
use Rattle.wing_wire.proofs.Writing.Lays.{whole, short}
use Rattle.wing_wire.proofs.Reading.Overs.{over-whole}
use Rattle.wing_wire.proofs.laying.hand_over.Goals as goal

pub returns-then-room-n : goal.returns-then-room-n
returns-then-room-n c =
    let a = c.args in
    short (take a.n a.laid.now) a.out.now (omega (arith, length-take a.n a.laid.now))

pub returns : goal.returns
returns c =
    let a = c.args in
    let s = take a.n a.laid.now in
    let l : a.n ≡ length s = omega (arith, length-take a.n a.laid.now) in
    let h : length s ≤ length a.out.now = omega arith in
    rw (c.copy_front.ensures, over-whole s a.out.now h) (whole s a.out.now l h)
