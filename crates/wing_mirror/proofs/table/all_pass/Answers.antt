-- The invariant: all records have their form and order exactly if those from i on do; a turn passes one (law `turn`).
use mathlib.Core.Path.{sym, ◌∙◌, ap}
use Rattle.wing_mirror.specs.Record.{key_of, well_formed}
use Rattle.wing_mirror.specs.Table.{checked_of}
use Rattle.wing_mirror.proofs.Tables.Tests.{from_all, turn, all-passed}
use Rattle.wing_mirror.proofs.table.all_pass.Goals as goal

pub loop-number-init : goal.loop-number-init
loop-number-init c =
    let a = c.args in
    ap (checked_of key_of well_formed) (from_all 264 a.count a.table.now)

pub loop-number-preserved : goal.loop-number-preserved
loop-number-preserved c =
    let a = c.args in
    c.loop-number.invariant ∙ turn 264 well_formed a.count c.loop-number.number a.table.now c.loop-number-test.true ∙ rw (← c.passes.ensures, c.if-not-passes.false)

pub returns-then-not-passes : goal.returns-then-not-passes
returns-then-not-passes c =
    let a = c.args in
    sym (c.loop-number.invariant ∙ turn 264 well_formed a.count c.loop-number.number a.table.now c.loop-number-test.true ∙ rw (← c.passes.ensures, c.if-not-passes.true))

pub returns : goal.returns
returns c =
    let a = c.args in
    sym (c.loop-number.invariant ∙ all-passed 264 well_formed a.count c.loop-number.number a.table.now c.loop-number-test.false)
