-- The stores of the kind, of the length by `put_number` and of the bytes by `lay` are those of `laid_from` in order, as n and `min` take the same
-- bytes (`string-laid`).
use native.Mathlib.Omega.{arith}
use lib.ListN.{set, length-set, length-take}
use Rattle.wing_node.proofs.Numerals.Placed.{field-sets}
use Rattle.wing_mirror.proofs.Tables.Laying.{string-laid}
use Rattle.wing_mirror.proofs.record.lay_string.Goals as goal

pub lay-requires : goal.lay-requires
lay-requires c =
    let s = c.args.string.now in
    let n = c.min-len.result in
    omega (arith, c.min-len.ensures, length-take n s, length-take c.args.n s, c.put_number.auto.out, length-set c.args.out.now 4 2)

pub returns : goal.returns
returns c =
    let o = c.args.out.now in
    string-laid o c.put_number.new.out _ c.args.string.now c.args.n c.min-len.result c.min-len.ensures (field-sets 2 c.min-len.result 6 (set o 4 2) _ _ (omega arith) (omega (arith, length-set o 4 2)) c.put_number.ensures) c.lay.ensures
