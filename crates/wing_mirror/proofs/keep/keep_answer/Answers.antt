-- Each arm is the line of `keep_event` for the event of that answer, by the contracts of `keep_value`, `body_mark`, `tick` and `refusal_mark`;
-- `Within` bounds the string and the body.
use Prim.Native.Nat.{◌≤◌}
use mathlib.Core.Path.{◌≡◌, refl, sym, ap}
use native.Mathlib.Omega.{arith}
use lib.Seq.{length-take-le}
use mir.Facts.{to_z-of_z}
use mir.Syntax.{w32}
use mir.Val.{to_z, of_z}
use Rattle.wing_node.specs.Value.{node_value}
use Rattle.wing_wire.specs.State.{body_limit}
use Rattle.wing_wire.specs.Reader.{event_of}
use Rattle.wing_mirror.specs.Table.{table}
use Rattle.wing_mirror.specs.Call.{too_long}
use Rattle.wing_mirror.specs.Mirror.{table_tally, keep_event}
use Rattle.wing_mirror.specs.declared.answer.Counts.{Counts}
use Rattle.wing_mirror.proofs.Tables.Laying.{short-front}
use borrow.Author.Rules.{rules}
use Rattle.wing_mirror.proofs.keep.keep_answer.Goals as goal

pub keep_value-requires : goal.keep_value-requires
unfolding node_value too_long
keep_value-requires c =
    (c.requires.0, c.requires.1, refl)

pub keep_value-requires-in-Float : goal.keep_value-requires-in-Float
unfolding node_value too_long
keep_value-requires-in-Float c =
    (c.requires.0, c.requires.1, refl)

pub keep_value-requires-in-String : goal.keep_value-requires-in-String
unfolding node_value
keep_value-requires-in-String c =
    let w = rw c.in-String.is at c.requires.3 in
    (c.requires.0, c.requires.1, short-front c.in-String.n c.args.store.now w.0)

pub slice_bounds-body_mark-end : goal.slice_bounds-body_mark-end
slice_bounds-body_mark-end c =
    let w : c.in-Body.n ≤ body_limit = rw c.in-Body.is at c.requires.3 in
    let n = c.requires.2 in
    sym (length-take-le c.in-Body.n c.args.store.now (omega arith))

pub returns-in-More : goal.returns-in-More
unfolding event_of keep_event
returns-in-More c = rw c.in-More.is

pub returns-in-Integer : goal.returns-in-Integer
unfolding event_of node_value
returns-in-Integer c =
    let back : to_z w32 (of_z w32 c.in-Integer.x) ≡ c.in-Integer.x = search rules in
    rw c.in-Integer.is (rw (to_z-of_z c.ranges.node, back) at c.keep_value.ensures)

pub returns-in-Float : goal.returns-in-Float
unfolding event_of node_value
returns-in-Float c =
    rw c.in-Float.is (rw (to_z-of_z c.ranges.node) at c.keep_value-in-Float.ensures)

pub returns-in-String : goal.returns-in-String
unfolding event_of node_value
returns-in-String c =
    rw c.in-String.is (rw (to_z-of_z c.ranges.node) at c.keep_value-in-String.ensures)

pub returns-in-Body : goal.returns-in-Body
unfolding event_of keep_event
returns-in-Body c =
    rw c.in-Body.is (ap (λ (x : Counts). table_tally (table c.args.table.now c.args.t.now.count) x) (rw c.body_mark.ensures at c.tick.ensures))

pub returns-in-End : goal.returns-in-End
unfolding event_of keep_event
returns-in-End c =
    rw c.in-End.is (ap (λ (x : Counts). table_tally (table c.args.table.now c.args.t.now.count) x) c.tick-in-End.ensures)

pub returns-in-Refused : goal.returns-in-Refused
unfolding event_of keep_event
returns-in-Refused c =
    rw c.in-Refused.is (ap (λ (x : Counts). table_tally (table c.args.table.now c.args.t.now.count) x) (rw c.refusal_mark.ensures at c.tick-in-Refused.ensures))
