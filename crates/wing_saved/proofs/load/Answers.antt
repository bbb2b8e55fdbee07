-- The bytes have a control where `head` gives one (`head_of`), and no state where it gives none (`headless`); then the state is that of `load_sound`.
use Prim.Native.Nat.{◌-◌}
use mathlib.Core.Path.{◌≡◌, sym, ◌∙◌}
use native.Mathlib.Omega.{arith}
use lib.ListN.{length, drop, length-drop}
use lib.Seq.{take_all}
use Rattle.wing_node.proofs.Refusals.{handed-on}
use Rattle.wing_saved.proofs.Saving.Trips.{head_of, headless}
use borrow.Author.Rules.{rules}
use Rattle.wing_saved.proofs.load.Goals as goal

pub slice_bounds-load_sound-count : goal.slice_bounds-load_sound-count
slice_bounds-load_sound-count c =
    let size = (head_of c.args.bytes.now _ (sym c.in_ok-c.ensures)).size in
    omega arith

pub slice_bounds-load_sound-start : goal.slice_bounds-load_sound-start
slice_bounds-load_sound-start c =
    let size = (head_of c.args.bytes.now _ (sym c.in_ok-c.ensures)).size in
    omega arith

pub load_sound-requires : goal.load_sound-requires
load_sound-requires c =
    let size = (head_of c.args.bytes.now _ (sym c.in_ok-c.ensures)).size in
    search rules

pub returns : goal.returns
returns c =
    let s = c.args.bytes.now in
    let k = head_of s _ (sym c.in_ok-c.ensures) in
    let l : length (drop 27 s) ≡ length s - 27 = length-drop 27 s in
    c.load_sound.ensures ∙ rw (take_all (length s - 27) (drop 27 s) (omega arith), k.state)

pub returns-in_err-c : goal.returns-in_err-c
returns-in_err-c c = handed-on _ _ c.from_residual.ensures.1 ∙ sym (headless c.args.bytes.now _ (sym c.in_err-c.ensures))
