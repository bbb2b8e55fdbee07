-- Each return is a case of `put_row`, at the number that `search` gives: the record is laid over the one found there (`over-it`) or into the gap that
-- `open_gap` opens (`new-one`), or no place is free (`none_free`).
use Prim.Native.Nat.{◌+◌, ◌*◌, ◌≤◌}
use native.Mathlib.Omega.{arith}
use lib.ListN.{length}
use Rattle.wing_mirror.proofs.Tables.Placing.{in_table, found-fits, free-fits, over-it, none_free, new-one}
use Rattle.wing_mirror.proofs.store.put.Goals as goal
use Rattle.wing_mirror.proofs.store.put.Goals.{In-Ok, In-Err}
use Rattle.wing_mirror.proofs.store.put.Given.{Over}

there : (g : Over) (c : In-Ok g) → g.row.W * c.in-Ok.number + g.row.W ≤ length c.args.table.now
there g c =
    let a = c.args in
    found-fits g.row.W a.table.now a.rec.now a.count c.requires c.told-rec c.key.result c.key.ensures c.in-Ok.number c.in-Ok.ensures

before : (g : Over) (c : In-Err g) → g.row.W * c.in-Err.number ≤ g.row.W * c.args.count
before g c =
    let a = c.args in
    in_table g.row.W a.table.now a.rec.now a.count c.requires c.told-rec c.key.result c.key.ensures c.in-Err.number c.in-Err.ensures

pub overflow_mul-number : goal.overflow_mul-number
overflow_mul-number g c = omega (arith, there g (goal.at.overflow_mul-number g c).In-Ok)

pub lay-requires : goal.lay-requires
lay-requires g c = omega (arith, there g (goal.at.lay-requires g c).In-Ok)

pub returns-in-Ok : goal.returns-in-Ok
returns-in-Ok g c =
    let a = c.args in
    over-it g.row.W a.table.now a.rec.now a.count c.requires c.told-rec c.key.result c.key.ensures c.in-Ok.number c.in-Ok.ensures c.lay.new.out c.lay.ensures

pub returns-then-places_of-count : goal.returns-then-places_of-count
returns-then-places_of-count g c =
    let a = c.args in
    none_free g.row.W a.table.now a.rec.now a.count c.requires c.told-rec c.key.result c.key.ensures c.in-Err.number c.in-Err.ensures (rw c.places_of.ensures at c.if-places_of-count.true)

pub overflow_mul-at : goal.overflow_mul-at
overflow_mul-at g c = omega (arith, before g (goal.at.overflow_mul-at g c).In-Err)

pub open_gap-requires : goal.open_gap-requires
open_gap-requires g c =
    let a = c.args in (
      before g (goal.at.open_gap-requires g c).In-Err,
      free-fits g.row.W a.count (length a.table.now) (rw c.places_of.ensures at c.if-places_of-count.false),
    )

pub lay-requires-in-Err : goal.lay-requires-in-Err
lay-requires-in-Err g c =
    let a = c.args in
    let most = before g (goal.at.lay-requires-in-Err g c).In-Err in
    let all = free-fits g.row.W a.count (length a.table.now) (rw c.places_of.ensures at c.if-places_of-count.false) in
    omega (arith, most, all, c.open_gap.auto.buf)

pub returns-else-places_of-count : goal.returns-else-places_of-count
returns-else-places_of-count g c =
    let a = c.args in
    new-one g.row.W a.table.now a.rec.now a.count c.requires c.told-rec c.key.result c.key.ensures c.in-Err.number c.in-Err.ensures c.open_gap.new.buf c.lay-in-Err.new.out (rw c.places_of.ensures at c.if-places_of-count.false) c.open_gap.ensures c.lay-in-Err.ensures
