-- The invariant: laying the lines left from the place reached on gives what laying all after the header gives; a turn lays one (`left-next`).
use Prim.Native.Nat.{◌+◌}
use mathlib.Core.Path.{refl, sym, ap, ◌∙◌}
use native.Mathlib.Omega.{arith}
use lib.ListN.{length}
use lib.Seq.{sets}
use Rattle.wing_wire.proofs.Laws.{writer-laws}
use Rattle.wing_mirror.specs.Table.{table as table_of}
use Rattle.wing_mirror.proofs.Calls.Sends.{row-formed}
use Rattle.wing_listing.proofs.Printing.Lines.{left, left-all, left-next, left_less, left-none, row_in, printed-size, listed}
use Rattle.wing_listing.proofs.print.lay_listing.Goals as goal

pub lay_header-requires : goal.lay_header-requires
lay_header-requires c =
    let a = c.args in
    omega (arith, printed-size (table_of a.table.now a.count))

pub loop-number-init : goal.loop-number-init
loop-number-init c =
    let a = c.args in
    let k = c.lay_header.auto.out in
    let e = ap length (left-all a.count a.table.now) in
    let p = printed-size (table_of a.table.now a.count) in
    (refl, omega arith, omega arith, refl)

pub print_record-at-requires : goal.print_record-at-requires
print_record-at-requires c =
    let t = table_of c.args.table.now c.args.count in
    let h = c.loop-number-test.true in
    (row_in t c.requires.0 c.loop-number.number h, row-formed t c.requires.0 c.loop-number.number h, omega (arith, left_less c.args.count c.loop-number.number c.args.table.now h))

pub loop-number-preserved : goal.loop-number-preserved
loop-number-preserved c =
    let a = c.args in
    let b = a.table.now in
    let n = a.count in
    let h = c.loop-number-test.true in
    let l = left_less n c.loop-number.number b h in
    let q = c.print_record-at.auto.out in (
      q ∙ c.loop-number.invariant.0,
      omega (arith, c.print_record-at.ensures.next),
      omega arith,
      writer-laws.after c.print_record-at.ensures (left n (c.loop-number.number + 1) b) ∙ ap (sets c.loop-number.out c.loop-number.at) (sym (left-next n c.loop-number.number b h)) ∙ c.loop-number.invariant.3,
    )

pub returns : goal.returns
returns c =
    let a = c.args in
    let t = table_of a.table.now a.count in
    let z = left-none a.count c.loop-number.number a.table.now c.loop-number-test.false in
    record {
      bytes = sym (ap (sets c.loop-number.out c.loop-number.at) z) ∙ c.loop-number.invariant.3 ∙ ap (sets c.lay_header.new.out 14) (sym (left-all a.count a.table.now)) ∙ listed t a.out.now c.lay_header.new.out c.lay_header.ensures;
      next = omega (arith, ap length z);
    }
