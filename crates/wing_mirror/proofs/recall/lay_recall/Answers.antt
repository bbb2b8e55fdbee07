-- The invariant: laying the orders left from the place reached on gives what laying all after df d1 gives; a turn lays one (`left-next`) into the
-- part of out from there on.
use Prim.Native.Nat.{◌+◌}
use mathlib.Core.Path.{refl, sym, ap, ◌∙◌}
use native.Mathlib.Omega.{arith}
use borrow.Author.Rules.{rules}
use lib.ListN.{length, set, length-set}
use lib.Seq.{sets, length-sets}
use Rattle.wing_wire.proofs.Laws.{writer-laws}
use Rattle.wing_mirror.specs.Record.{full}
use Rattle.wing_mirror.specs.Table.{table as table_of, row_at}
use Rattle.wing_mirror.specs.Recall.{recall_bytes}
use Rattle.wing_mirror.specs.Sending.{order_in}
use Rattle.wing_mirror.proofs.Records.Usables.{room}
use Rattle.wing_mirror.proofs.Calls.Sends.{left, left-all, left-next, left_less, left-none, row-formed}
use Rattle.wing_mirror.proofs.recall.lay_recall.Goals as goal

pub bounds-out-0 : goal.bounds-out-0
unfolding recall_bytes
bounds-out-0 c = search rules

pub bounds-out-1 : goal.bounds-out-1
unfolding recall_bytes
bounds-out-1 c = let l = length-set c.args.out.now 0 0xdf in search rules

pub loop-number-init : goal.loop-number-init
unfolding recall_bytes
loop-number-init c =
    let e = ap length (left-all c.args.count c.args.table.now) in
    let l = length-set (set c.args.out.now 0 0xdf) 1 0xd1 ∙ length-set c.args.out.now 0 0xdf in
    (refl, omega arith, omega arith, refl)

pub lay_order-at-requires : goal.lay_order-at-requires
lay_order-at-requires c =
    let t = table_of c.args.table.now c.args.count in
    let h = c.loop-number-test.true in
    (omega (arith, room full t c.requires.0), row-formed t c.requires.0 c.loop-number.number h, omega (arith, left_less c.args.count c.loop-number.number c.args.table.now h))

pub overflow_add-at : goal.overflow_add-at
overflow_add-at c =
    let l = left_less c.args.count c.loop-number.number c.args.table.now c.loop-number-test.true in
    let n = c.lay_order-at.ensures.next in
    search rules

pub loop-number-preserved : goal.loop-number-preserved
loop-number-preserved c =
    let b = c.args.table.now in
    let n = c.args.count in
    let h = c.loop-number-test.true in
    let l = left_less n c.loop-number.number b h in
    let o = c.lay_order-at.ensures in
    let p = writer-laws.part c.loop-number.at o in
    let q = ap length p.bytes ∙ length-sets c.loop-number.out c.loop-number.at (order_in (row_at c.loop-number.number b)) in (
      q ∙ c.loop-number.invariant.0,
      omega (arith, o.next),
      omega arith,
      writer-laws.after p (left n (c.loop-number.number + 1) b) ∙ ap (sets c.loop-number.out c.loop-number.at) (sym (left-next n c.loop-number.number b h)) ∙ c.loop-number.invariant.3,
    )

pub returns : goal.returns
unfolding recall_bytes
returns c =
    let a = c.args in
    let z = left-none a.count c.loop-number.number a.table.now c.loop-number-test.false in
    let all = left-all a.count a.table.now in
    record {
      bytes = sym (ap (sets c.loop-number.out c.loop-number.at) z) ∙ c.loop-number.invariant.3 ∙ ap (sets (set (set a.out.now 0 0xdf) 1 0xd1) 2) (sym all);
      next = omega (arith, ap length z);
    }
