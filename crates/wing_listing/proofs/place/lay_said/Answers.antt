-- The stores are those of `laid_from` in order: of an integer (`integer-said`), or of the bytes that pairs say (`pairs-said`).
use Prim.Native.Nat.{◌/◌}
use mathlib.Core.Path.{sym, ◌∙◌}
use native.Mathlib.Omega.{arith}
use borrow.Author.Rules.{rules}
use lib.ListN.{length, set, length-set}
use Rattle.wing_node.proofs.Numerals.Placed.{field-sets}
use Rattle.wing_listing.proofs.Texts.Hexes.{length_from}
use Rattle.wing_listing.proofs.Texts.Values.{value-integer, integer-some, read-passed}
use Rattle.wing_listing.proofs.Texts.Places.{said, pairs-said, integer-said}
use Rattle.wing_listing.proofs.place.lay_said.Goals as goal

pub overflow_cast-s : goal.overflow_cast-s
overflow_cast-s c =
    let s = c.args.s.now in
    let g = said c.args.kind s c.if-kind-eq105.false c.requires.0 c.requires.1 in
    let l = length_from s in
    search rules

pub unwrap-x-requires : goal.unwrap-x-requires
unwrap-x-requires c =
    rw c.integer_in.ensures (integer-some c.args.s.now (value-integer c.args.kind c.args.s.now c.if-kind-eq105.true c.requires.0))

pub lay_bytes-requires : goal.lay_bytes-requires
lay_bytes-requires c =
    let s = c.args.s.now in
    let g = said c.args.kind s c.if-kind-eq105.false c.requires.0 c.requires.1 in
    (g.pairs, omega (arith, g.few, c.told-out, c.put_number-else-kind-eq105.auto.out, length-set c.args.out.now 4 c.kind_of.result))

pub returns-then-kind-eq105 : goal.returns-then-kind-eq105
returns-then-kind-eq105 c =
    let o = c.args.out.now in
    let s = c.args.s.now in
    let k = c.args.kind in
    let i = c.if-kind-eq105.true in
    let l = length-set o 4 0 in
    let mid = c.put_number.new.out in
    let last = c.put_number-then-kind-eq105.new.out in
    integer-said k s o mid last i _ (read-passed c.unwrap-x.result s (sym c.unwrap-x.ensures ∙ c.integer_in.ensures))
    (field-sets 2 4 6 (set o 4 0) mid _ (omega arith) (omega (arith, c.told-out)) c.put_number.ensures)
    (field-sets 4 _ 8 mid last _ (omega arith) (omega (arith, c.told-out, c.put_number.auto.out)) c.put_number-then-kind-eq105.ensures)

pub returns-else-kind-eq105 : goal.returns-else-kind-eq105
returns-else-kind-eq105 c =
    let o = c.args.out.now in
    let s = c.args.s.now in
    let k = c.args.kind in
    let l = length-set o 4 c.kind_of.result in
    let mid = c.put_number-else-kind-eq105.new.out in
    let g = said k s c.if-kind-eq105.false c.requires.0 c.requires.1 in
    pairs-said k s o mid c.lay_bytes.new.out g c.kind_of.result c.kind_of.ensures
    (field-sets 2 (length s / 2) 6 (set o 4 c.kind_of.result) mid _ (omega arith) (omega (arith, c.told-out)) c.put_number-else-kind-eq105.ensures)
    c.lay_bytes.ensures
