-- The bytes have a control under version 1 where `head_under` gives one (`begun`), and no old state where it gives none; then the state is that of `carry`.
use Prim.Native.Nat.{◌-◌}
use mathlib.Core.Path.{◌≡◌, sym, ◌∙◌}
use native.Mathlib.Omega.{arith}
use lib.ListN.{length, drop, length-drop}
use lib.Seq.{take_all}
use Rattle.wing_node.proofs.Refusals.{handed-on}
use Rattle.wing_saved.specs.Earlier.{earlier_with, earlier_from, carried_from, load_earlier_of}
use Rattle.wing_saved.proofs.Saving.Trips.{begun}
use borrow.Author.Rules.{rules}
use Rattle.wing_saved.proofs.earlier.load_earlier.Goals as goal

pub slice_bounds-carry-count : goal.slice_bounds-carry-count
slice_bounds-carry-count c =
    let size = (begun 1 _ _ (sym c.in_ok-c.ensures)).size in
    omega arith

pub slice_bounds-carry-start : goal.slice_bounds-carry-start
slice_bounds-carry-start c =
    let size = (begun 1 _ _ (sym c.in_ok-c.ensures)).size in
    omega arith

pub carry-requires : goal.carry-requires
carry-requires c =
    let size = (begun 1 _ _ (sym c.in_ok-c.ensures)).size in
    search rules

pub returns-then-is_narrow : goal.returns-then-is_narrow
unfolding load_earlier_of earlier_from earlier_with carried_from
returns-then-is_narrow c =
    let s = c.args.bytes.now in
    let size = (begun 1 _ _ (sym c.in_ok-c.ensures)).size in
    let n = sym c.is_narrow.ensures ∙ c.if-is_narrow.true in
    let l : length (drop 27 s) ≡ length s - 27 = length-drop 27 s in
    c.carry.ensures ∙ rw (take_all (length s - 27) (drop 27 s) (omega arith), sym c.in_ok-c.ensures, n)

pub returns : goal.returns
unfolding load_earlier_of earlier_from earlier_with carried_from
returns c =
    let n = sym c.is_narrow.ensures ∙ c.if-is_narrow.false in
    rw (sym c.in_ok-c.ensures, n)

pub returns-in_err-c : goal.returns-in_err-c
unfolding load_earlier_of earlier_from earlier_with carried_from
returns-in_err-c c = handed-on _ _ c.from_residual.ensures.1 ∙ rw (sym c.in_err-c.ensures)
