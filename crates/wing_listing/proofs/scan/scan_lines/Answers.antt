-- The invariant: what is counted so far with the reading of the text left is the reading of all. A turn takes one line (Texts/Turns).
use Prim.Native.Nat.{ℕ, ◌+◌, ◌-◌, ◌≤◌}
use mathlib.Core.Path.{◌≡◌, sym, ap, ◌∙◌}
use native.Mathlib.Omega.{arith}
use borrow.Author.Rules.{rules}
use lib.Dec.{eqb}
use mir.Syntax.{w32}
use mir.Val.{to_z, of_z}
use lib.ListN.{length}
use Rattle.std.proofs.Common.{tests, length-append}
use Rattle.std.proofs.lemmas.Fn.{always_returns_same}
use Rattle.std.specs.Slice.Iter.{split_inclusive_rest}
use Rattle.wing_mirror.specs.Rows.{nothing}
use Rattle.wing_listing.specs.Parts.{newline, parted}
use Rattle.wing_listing.specs.Reading.{lines_from}
use Rattle.wing_listing.specs.Steps.{id_before}
use Rattle.wing_listing.proofs.Texts.Turns.{piece-line, turn-unended, turn-bad, turn-again, judged-why, judged-good, judged-id}
use Rattle.wing_listing.proofs.Texts.Scans.{lines_end, counted, counted-all, some-text}
use Rattle.wing_listing.proofs.scan.scan_lines.Goals as goal
use Rattle.std.specs.Prelude.{Ok}

pub loop-ended-init : goal.loop-ended-init
unfolding id_before
loop-ended-init c =
    let text = c.args.text.now in
    let e : split_inclusive_rest c.into_iter-ended-iterator.result ≡ text = ap split_inclusive_rest c.into_iter-ended-iterator.ensures.into_iter_gives ∙ c.split_inclusive-ended-items.ensures.rest in
    (omega arith, omega (arith, ap length e), ap (λ t. counted 0 (lines_from 2 nothing (parted newline t))) e ∙ counted-all (lines_from 2 nothing (parted newline text)))

pub returns-in_default : goal.returns-in_default
returns-in_default c =
    let s = c.in-Some.ensures.steps in
    let first = (s.1.2 (λ (a : ℕ). eqb a newline) (always_returns_same _ _ _ (λ x r q k. search (rules, tests)))).1 in
    let u = turn-unended _ _ _ s.1.0 s.0 s.1.1 first s.2 c.in_default.ensures.cases c.loop-ended.number (id_before c.loop-ended.before) in
    c.bad.ensures ∙ ap (counted (c.loop-ended.number - 2)) (sym u) ∙ c.loop-ended.invariant.2

pub returns-in-Err : goal.returns-in-Err
returns-in-Err c =
    let s = c.in-Some.ensures.steps in
    let first = (s.1.2 (λ (a : ℕ). eqb a newline) (always_returns_same _ _ _ (λ x r q k. search (rules, tests)))).1 in
    let x = c.in-Some-strip_suffix.ensures.cases in
    let B = id_before c.loop-ended.before in
    let l = x.1 ∙ piece-line _ _ _ s.1.0 s.0 s.1.1 first s.2 x.0 in
    let why = judged-why B _ _ c.judge.result c.judge.ensures l c.in-Err.why c.in-Err.is in
    c.bad-in-Err.ensures ∙ ap (counted (c.loop-ended.number - 2)) (sym (turn-bad _ _ _ s.1.0 s.0 s.1.1 first s.2 x.0 c.loop-ended.number B c.in-Err.why why)) ∙ c.loop-ended.invariant.2

pub overflow_add-number : goal.overflow_add-number
overflow_add-number c =
    let h = c.loop-ended.invariant.1 in
    let s = c.in-Some.ensures.steps.2 in
    let n : c.loop-ended.number + 1 ≤ length c.args.text.now + 2 = omega arith in
    search rules

pub loop-ended-preserved : goal.loop-ended-preserved
loop-ended-preserved c =
    let s = c.in-Some.ensures.steps in
    let first = (s.1.2 (λ (a : ℕ). eqb a newline) (always_returns_same _ _ _ (λ x r q k. search (rules, tests)))).1 in
    let x = c.in-Some-strip_suffix.ensures.cases in
    let B = id_before c.loop-ended.before in
    let l = x.1 ∙ piece-line _ _ _ s.1.0 s.0 s.1.1 first s.2 x.0 in
    let z = judged-good B _ _ c.judge.result c.judge.ensures l c.in-Ok.id c.in-Ok.is in
    let i = judged-id B _ _ c.judge.result c.judge.ensures l c.in-Ok.id c.in-Ok.is in
    (omega (arith, c.loop-ended.invariant.0), omega (arith, c.loop-ended.invariant.1, s.1.1, s.2, ap length s.0, length-append c.in-Some.ended.now (split_inclusive_rest c.next.new.self)), turn-again _ _ _ s.1.0 s.0 s.1.1 first s.2 x.0 c.loop-ended.number B (to_z w32 (of_z w32 c.in-Ok.id)) _ c.loop-ended.invariant.0 z i c.loop-ended.invariant.2)

pub overflow_sub-result : goal.overflow_sub-result
overflow_sub-result c = c.loop-ended.invariant.0

pub returns : goal.returns
returns c =
    let n : c.loop-ended.number - 2 ≡ c.loop-ended.number - 2 + 0 = omega arith in
    let e = some-text (split_inclusive_rest c.loop-ended.ended-iterator) c.in-None.ensures.steps.0 in
    ap Ok n ∙
    ap (counted (c.loop-ended.number - 2)) (sym (ap (λ t. lines_from c.loop-ended.number (id_before c.loop-ended.before) (parted newline t)) e ∙ lines_end c.loop-ended.number (id_before c.loop-ended.before))) ∙ c.loop-ended.invariant.2
