-- What the function lays is within N bytes and so within the output (law `written`), or within the scratch buffer, from which it is handed over
-- (law `handed-over`).
use Prim.Native.Nat.{ℕ}
use mathlib.Core.Path.{◌∙◌}
use native.Mathlib.Omega.{arith}
use borrow.Author.Rules.{rules}
use lib.ListN.{replicate, length-replicate}
use Rattle.std.specs.Fn.{FnOnceReturnsAtMut}
use Rattle.wing_wire.proofs.Writing.Lays.{written, handed-over}
use Rattle.wing_wire.proofs.laying.write_by.Goals as goal

pub returns-then-out : goal.returns-then-out
returns-then-out g c =
    λ bytes lays.
    let p : FnOnceReturnsAtMut g.F.FnOnce c.args.lay c.args.out.now c.lay.result c.lay.new.arg2 = search rules in
    let a = c.requires.bounded.1 _ _ _ p in
    let b = lays _ _ _ p in
    written b (omega (arith, a.next, b.next, c.requires.bounded.2))

pub hand_over-requires : goal.hand_over-requires
hand_over-requires g c =
    let p : FnOnceReturnsAtMut g.F.FnOnce c.args.lay (replicate g.row.N 0) c.lay-n.result c.lay-n.new.arg2 = search rules in
    let a = c.requires.bounded.1 _ _ _ p in
    omega (arith, a.next, c.requires.bounded.2, length-replicate {A = ℕ} g.row.N 0)

pub returns : goal.returns
returns g c =
    λ bytes lays.
    let p : FnOnceReturnsAtMut g.F.FnOnce c.args.lay (replicate g.row.N 0) c.lay-n.result c.lay-n.new.arg2 = search rules in
    let a = c.requires.bounded.1 _ _ _ p in
    let b = lays _ _ _ p in
    c.hand_over.ensures ∙ handed-over b (omega (arith, a.next, b.next, c.requires.bounded.2, length-replicate {A = ℕ} g.row.N 0)) c.args.out.now
