-- The invariant: the table is the first records laid over what it held, and the text left says the entries left (`Left`); a turn lays one.
use Prim.Native.Nat.{◌+◌, ◌-◌, ◌*◌, ◌≤◌}
use mathlib.Core.Path.{◌≡◌, refl, sym, ap, ◌∙◌}
use mathlib.Core.List.{map}
use native.Mathlib.Omega.{arith}
use borrow.Author.Rules.{rules}
use borrow.Rule.Slice.PartMut.{same_len_mid}
use lib.ListN.{length, take}
use Rattle.wing_mirror.specs.Rows.{laid}
use Rattle.wing_mirror.specs.Record.{width, record_of}
use Rattle.wing_listing.specs.Reading.{reading_of, entries_in}
use Rattle.wing_mirror.proofs.Tables.Chunks.{laid_nil}
use Rattle.wing_listing.proofs.Texts.Scans.{left-start}
use Rattle.wing_listing.proofs.Texts.Laid.{turn_at, turn-within, turn-line, turn-fault, turn-left, turn-laid}
use Rattle.wing_listing.proofs.load.lay_lines.Goals as goal

pub loop-number-init : goal.loop-number-init
loop-number-init c =
    (omega arith, refl, sym (laid_nil width c.args.table.now), (λ h. left-start c.args.text.now (omega (arith, c.requires.0))))

pub slice_bounds-find-count : goal.slice_bounds-find-count
slice_bounds-find-count c =
    let a = turn_at c.args.text.now c.args.count c.loop-number.number c.loop-number.at c.requires.0 c.loop-number-test.true (c.loop-number.invariant.3 c.loop-number-test.true) in
    omega arith

pub slice_bounds-find-start : goal.slice_bounds-find-start
slice_bounds-find-start c =
    let a = turn_at c.args.text.now c.args.count c.loop-number.number c.loop-number.at c.requires.0 c.loop-number-test.true (c.loop-number.invariant.3 c.loop-number-test.true) in
    omega arith

pub overflow_add-end : goal.overflow_add-end
overflow_add-end c =
    let h = c.loop-number-test.true in
    let w = turn-within c.args.text.now c.args.count c.loop-number.number c.loop-number.at c.requires.0 h (c.loop-number.invariant.3 h) c.find.result c.find.ensures in
    search rules

pub overflow_mul-from : goal.overflow_mul-from
overflow_mul-from c =
    let h = c.loop-number-test.true in
    let r : 264 * c.loop-number.number + 264 ≤ length c.loop-number.table = omega (arith, c.requires.1, c.loop-number.invariant.1) in
    search rules

pub overflow_add-from : goal.overflow_add-from
overflow_add-from c =
    let h = c.loop-number-test.true in
    let r : 264 * c.loop-number.number + 264 ≤ length c.loop-number.table = omega (arith, c.requires.1, c.loop-number.invariant.1) in
    search rules

pub slice_bounds-record_in-end : goal.slice_bounds-record_in-end
slice_bounds-record_in-end c =
    let h = c.loop-number-test.true in
    let w = turn-within c.args.text.now c.args.count c.loop-number.number c.loop-number.at c.requires.0 h (c.loop-number.invariant.3 h) c.find.result c.find.ensures in
    omega arith

pub record_in-requires : goal.record_in-requires
record_in-requires c =
    let h = c.loop-number-test.true in
    let t = c.args.text.now in (
      turn-line t c.args.count c.loop-number.number c.loop-number.at c.requires.0 h (c.loop-number.invariant.3 h) c.find.result c.find.ensures,
      turn-fault t c.args.count c.loop-number.number c.loop-number.at c.requires.0 h (c.loop-number.invariant.3 h) c.find.result c.find.ensures,
    )

pub overflow_add-at : goal.overflow_add-at
overflow_add-at c =
    let h = c.loop-number-test.true in
    let w = turn-within c.args.text.now c.args.count c.loop-number.number c.loop-number.at c.requires.0 h (c.loop-number.invariant.3 h) c.find.result c.find.ensures in
    search rules

pub loop-number-preserved : goal.loop-number-preserved
loop-number-preserved c =
    let h = c.loop-number-test.true in
    let t = c.args.text.now in (
      omega arith,
      same_len_mid (264 * c.loop-number.number) (264 * c.loop-number.number + 264 - 264 * c.loop-number.number) c.loop-number.table c.copy_from_slice.new.self c.copy_from_slice.ensures.len ∙ c.loop-number.invariant.1,
      turn-laid t c.args.count c.loop-number.number c.loop-number.at c.requires.0 h (c.loop-number.invariant.3 h) c.find.result c.find.ensures c.copy_from_slice.new.self c.loop-number.table c.args.table.now (c.copy_from_slice.ensures.after ∙ c.record_in.ensures) c.loop-number.invariant.2,
      (λ g. turn-left t c.args.count c.loop-number.number c.loop-number.at c.requires.0 h (c.loop-number.invariant.3 h) c.find.result c.find.ensures),
    )

pub returns : goal.returns
returns c =
    let e : c.loop-number.number ≡ c.args.count = omega (arith, c.loop-number.invariant.0, c.loop-number-test.false) in
    c.loop-number.invariant.2 ∙ ap (λ n. laid width (map record_of (take n (entries_in (reading_of c.args.text.now)))) c.args.table.now) e
