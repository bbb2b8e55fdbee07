-- The invariant: the records below a number were not read, their keys rise, the key belongs at that number as far as was read, and the search answers
-- what it answers over these, after the keys that were read. A turn reads a last key that is higher (law `goes_down`); one that is lower or the same
-- ends the loop (laws `stops-below`, `stops-there`).
use Prim.Native.Nat.{◌<◌}
use mathlib.Core.Path.{◌≡◌, refl, sym, ◌∙◌}
use native.Mathlib.Omega.{arith}
use Rattle.wing_mirror.specs.Rows.{records}
use Rattle.wing_mirror.specs.Record.{key_of}
use Rattle.wing_mirror.proofs.Tables.Finds.{fewer}
use Rattle.wing_mirror.proofs.Tables.Chunks.{row_fits}
use Rattle.wing_mirror.proofs.Tables.HighEnd.{from-none, goes_down, stops-below, stops-there, stops-under}
use borrow.Author.Rules.{rules}
use Rattle.wing_mirror.proofs.order.search_down.Goals as goal

pub loop-number-init : goal.loop-number-init
loop-number-init g c = (omega arith, refl, from-none key_of c.args.key (records g.row.W c.args.count c.args.table.now), c.requires.up)

pub key_at-last-requires : goal.key_at-last-requires
key_at-last-requires g c =
    let a = c.args in
    (c.requires.wide, row_fits g.row.W _ a.count _ (omega arith) c.requires.room)

pub returns-then-last-key : goal.returns-then-last-key
returns-then-last-key g c =
    let a = c.args in
    let l = c.loop-number in
    let h : c.key_at-last.result < a.key = search rules in
    rw l.invariant.1 (sym (l.invariant.2 ∙ stops-below g.row.W key_of a.key l.number l.reads a.table.now c.loop-number-test.true l.invariant.3 (rw c.key_at-last.ensures at h)))

pub returns-then-last-key-2 : goal.returns-then-last-key-2
returns-then-last-key-2 g c =
    let a = c.args in
    let l = c.loop-number in
    let h : c.key_at-last.result ≡ a.key = search rules in
    sym (l.invariant.2 ∙ stops-there g.row.W key_of a.key l.number l.reads a.table.now c.loop-number-test.true l.invariant.3 (sym c.key_at-last.ensures ∙ h))

pub loop-number-preserved : goal.loop-number-preserved
loop-number-preserved g c =
    let a = c.args in
    let l = c.loop-number in
    let some = c.loop-number-test.true in
    let h : a.key < c.key_at-last.result = search rules in (
      omega arith,
      refl,
      l.invariant.2 ∙ goes_down g.row.W key_of a.key l.number l.reads a.table.now some (rw c.key_at-last.ensures at h),
      fewer g.row.W key_of a.key l.number a.table.now some l.invariant.3,
    )

pub returns : goal.returns
returns g c =
    let a = c.args in
    let l = c.loop-number in
    rw l.invariant.1 (sym (l.invariant.2 ∙ stops-under g.row.W key_of a.key l.number l.reads a.table.now c.loop-number-test.false))
