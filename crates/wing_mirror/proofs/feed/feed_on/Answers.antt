-- The invariant: the feed from here over the bytes left is the whole feed, and the table is usable (`FeedInvariant`); a turn hands one answer to
-- `keep_answer` and releases it (law `again`), and at 'more' the feed has ended (law `ended`).
use mathlib.Core.Path.{◌≡◌, refl, sym, ◌∙◌, ap}
use native.Mathlib.Omega.{arith}
use mir.Syntax.{w32}
use mir.Val.{to_z, of_z}
use borrow.Author.Rules.{rules}
use Rattle.wing_wire.specs.State.{state_of}
use Rattle.wing_wire.proofs.Laws.{decoder-laws}
use Rattle.wing_mirror.specs.Record.{full}
use Rattle.wing_mirror.specs.Table.{table as table_of}
use Rattle.wing_mirror.specs.Mirror.{fed_all, taken_feed}
use Rattle.wing_mirror.specs.Tally.{tally_of}
use Rattle.wing_mirror.proofs.Records.Full.{full-laws}
use Rattle.wing_mirror.proofs.Calls.Turns.{begun, inside, ended, less-left, answer-bounded, again}
use Rattle.wing_mirror.proofs.feed.feed_on.Goals as goal

pub loop-a-init : goal.loop-a-init
loop-a-init c =
    let g = decoder-laws.next.sound (state_of c.args.c c.args.store.now) c.requires.0 in
    (refl, refl, begun full c.args.bytes.now c.args.c c.args.store.now (table_of c.args.table.now c.args.count) c.zero_counts.result c.zero_counts.ensures c.requires.3 g c.requires.2)

pub slice_bounds-advance-count : goal.slice_bounds-advance-count
slice_bounds-advance-count c = c.loop-a.invariant.2.within

pub slice_bounds-advance-start : goal.slice_bounds-advance-start
slice_bounds-advance-start c = let h = c.loop-a.invariant.2.within in search rules

pub slice_bounds-advance-end : goal.slice_bounds-advance-end
slice_bounds-advance-end c = let h = c.loop-a.invariant.2.within in search rules

pub overflow_add-i : goal.overflow_add-i
overflow_add-i c =
    let few = c.requires.3 in
    let h = inside full-laws c.loop-a.invariant.2 c.advance-r.result c.advance-r.new.store c.advance-r.ensures in
    search rules

pub returns-then-is_more : goal.returns-then-is_more
unfolding fed_all
returns-then-is_more c =
    let m = sym c.is_more.ensures ∙ c.if-is_more.true in
    ap taken_feed (ended full-laws c.loop-a.invariant.2 c.advance-r.result c.advance-r.new.store c.advance-r.ensures m)

pub keep_answer-requires : goal.keep_answer-requires
keep_answer-requires c =
    let l = c.loop-a.invariant in
    let w = answer-bounded full-laws l.2 c.advance-r.result c.advance-r.new.store c.advance-r.ensures in
    let f = l.2.few in
    (l.2.ready, omega arith, omega arith, w.within)

pub loop-a-smaller : goal.loop-a-smaller
loop-a-smaller c =
    let m = sym c.is_more.ensures ∙ c.if-is_more.false in
    omega (arith, less-left full-laws c.loop-a.invariant.2 c.advance-r.result c.advance-r.new.store c.advance-r.ensures m)

pub loop-a-preserved : goal.loop-a-preserved
loop-a-preserved c =
    let l = c.loop-a.invariant in
    let m = sym c.is_more.ensures ∙ c.if-is_more.false in
    let node = c.advance-r.result.control.node in
    let back : to_z w32 (of_z w32 node) ≡ node = search rules in
    (search rules, search rules, again full-laws l.2 c.advance-r.result c.advance-r.new.store c.advance-r.ensures m c.release.new.store c.release.ensures (tally_of c.keep_answer.new.t c.keep_answer.new.table) (rw back at c.keep_answer.ensures))
