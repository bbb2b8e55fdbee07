-- `find` gives the place of the first comma and `integer_in` the id before it; each return is a law of a line by that place (Texts/Reads).
use Prim.Native.Nat.{◌+◌}
use native.Mathlib.Omega.{arith}
use borrow.Author.Rules.{rules}
use mathlib.Core.Path.{sym, ap, ◌∙◌}
use lib.ListN.{get_or}
use lib.Seq.{length-take-le}
use Rattle.wing_listing.specs.Parts.{comma}
use Rattle.wing_listing.specs.Reading.{is_value}
use Rattle.wing_listing.proofs.Texts.Drops.{rest-whole}
use Rattle.wing_listing.proofs.Texts.Parts.{front-le}
use Rattle.wing_listing.proofs.Texts.Reads.{says-no-id, says-short, says-off, says-other, says-line}
use Rattle.wing_listing.proofs.line.line_in.Goals as goal
use Rattle.wing_listing.proofs.line.line_in.Goals.{then-s-a-via-then-s-a, then-s-a-via-else-s-a+then-s-a-ne44}

pub slice_bounds-integer_in-end : goal.slice_bounds-integer_in-end
slice_bounds-integer_in-end c =
    let s = c.args.s.now in
    sym (length-take-le c.find-a.result s (omega (arith, c.find-a.ensures, front-le comma s)))

pub overflow_add-a : goal.overflow_add-a
overflow_add-a c =
    let f = front-le comma c.args.s.now in
    search rules

pub returns-in_err-id : goal.returns-in_err-id
returns-in_err-id c = rw c.from_residual.ensures (says-no-id c.args.s.now c.find-a.result c.find-a.ensures c.integer_in.result c.integer_in.ensures c.in_err-id.was)

pub returns-then-s-a : goal.returns-then-s-a
returns-then-s-a c =
    let s = c.args.s.now in
    elim c.then-s-a.branch [
      | then-s-a-via-then-s-a w ↦ says-short s c.find-a.result c.find-a.ensures c.integer_in.result c.integer_in.ensures w.if-s-a.true
      | then-s-a-via-else-s-a+then-s-a-ne44 w ↦ says-off s c.find-a.result c.find-a.ensures c.integer_in.result c.integer_in.ensures w.if-s-a.false w.if-s-a-ne44.true
    ]

pub returns-then-not-is_value : goal.returns-then-not-is_value
returns-then-not-is_value c =
    let s = c.args.s.now in
    let a = c.find-a.result in
    says-other s a c.find-a.ensures c.integer_in.result c.integer_in.ensures c.if-s-a.false c.if-s-a-ne44.false c.in_ok-id.id c.in_ok-id.was
    (ap (is_value (get_or s (a + 1) 0)) (sym (rest-whole s (a + 3))) ∙ sym c.is_value.ensures ∙ c.if-not-is_value.true)

pub returns : goal.returns
returns c =
    let s = c.args.s.now in
    let a = c.find-a.result in
    says-line s a c.find-a.ensures c.integer_in.result c.integer_in.ensures c.if-s-a.false c.if-s-a-ne44.false c.in_ok-id.id c.in_ok-id.was
    (ap (is_value (get_or s (a + 1) 0)) (sym (rest-whole s (a + 3))) ∙ sym c.is_value.ensures ∙ c.if-not-is_value.false)
