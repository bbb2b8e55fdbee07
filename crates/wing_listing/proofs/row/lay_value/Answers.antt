-- An integer's decimal (`integer-laid`), or as many hex pairs as the record's length says (`pairs-text`).
use Prim.Native.Nat.{◌+◌, ◌-◌}
use mathlib.Core.Path.{◌≡◌, sym, ◌∙◌, ap}
use native.Mathlib.Omega.{arith}
use lib.ListN.{length, take, drop, length-drop}
use lib.Seq.{sets, length-take-le}
use Rattle.wing_listing.proofs.Printing.Pairs.{length_pairs}
use Rattle.wing_listing.proofs.Printing.Values.{integer-laid, pairs-text}
use borrow.Author.Rules.{rules}
use Rattle.wing_listing.proofs.row.lay_value.Goals as goal

pub overflow_add-result : goal.overflow_add-result
overflow_add-result c =
    let l = integer-laid c.args.rec.now c.told-rec c.number_at.result c.put_decimal.result c.args.at c.args.out.now c.put_decimal.new.out c.if-rec-eq0.true c.number_at.ensures c.put_decimal.ensures c.requires.1 in
    search rules

pub returns-then-rec-eq0 : goal.returns-then-rec-eq0
returns-then-rec-eq0 c =
    integer-laid c.args.rec.now c.told-rec c.number_at.result c.put_decimal.result c.args.at c.args.out.now c.put_decimal.new.out c.if-rec-eq0.true c.number_at.ensures c.put_decimal.ensures c.requires.1

pub slice_bounds-lay_pairs-end : goal.slice_bounds-lay_pairs-end
slice_bounds-lay_pairs-end c =
    let few = (pairs-text c.args.rec.now c.told-rec c.requires.0 (λ i. omega (arith, c.fits-rec i)) c.number_at-n.result c.if-rec-eq0.false c.number_at-n.ensures).0 in
    search rules

pub lay_pairs-requires : goal.lay_pairs-requires
lay_pairs-requires c =
    let r = c.args.rec.now in
    let n = c.number_at-n.result in
    let z : 8 + n - 8 ≡ n = omega arith in
    let p = pairs-text r c.told-rec c.requires.0 (λ i. omega (arith, c.fits-rec i)) n c.if-rec-eq0.false c.number_at-n.ensures in
    rw z (omega (arith, length_pairs (take n (drop 8 r)), ap length p.1))

pub returns : goal.returns
returns c =
    let r = c.args.rec.now in
    let n = c.number_at-n.result in
    let z : 8 + n - 8 ≡ n = omega arith in
    let p = pairs-text r c.told-rec c.requires.0 (λ i. omega (arith, c.fits-rec i)) n c.if-rec-eq0.false c.number_at-n.ensures in
    record {
      bytes = rw z at c.lay_pairs.ensures ∙ ap (sets c.args.out.now c.args.at) (sym p.1);
      next = omega (arith, p.0, ap length p.1, length_pairs (take n (drop 8 r)), length-take-le n (drop 8 r) (omega (arith, p.0, length-drop 8 r)));
    }
