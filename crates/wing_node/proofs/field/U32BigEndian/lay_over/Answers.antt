-- The library's bytes of the number (`to_four`) over the front (`put-front`); over fewer bytes nothing is laid (`put-short`).
use mathlib.Core.Path.{sym, ◌∙◌, ap}
use native.Mathlib.Omega.{arith}
use borrow.Rule.Slice.PartMut.{put_mid}
use Rattle.wing_node.specs.Field.{bytes_of}
use Rattle.wing_node.proofs.Numerals.BigEndian.{to_four}
use Rattle.wing_node.proofs.Numerals.Numbers.{length-digits_in}
use Rattle.wing_node.proofs.Numerals.Placed.{put-front, put-short}
use Rattle.wing_node.proofs.field.U32BigEndian.lay_over.Goals as goal

pub returns-then-out-ge4 : goal.returns-then-out-ge4
returns-then-out-ge4 c =
    ap (λ x. put_mid 0 4 c.args.out.now x) (c.copy_from_slice.ensures.after ∙ c.to_be_bytes.ensures ∙ to_four c.args.self) ∙
    put-front 4 c.args.self c.args.out.now (omega arith) (omega arith)

pub returns-else-out-ge4 : goal.returns-else-out-ge4
returns-else-out-ge4 c =
    sym (ap (λ p. p.bytes) (put-short (bytes_of 4 c.args.self) 0 c.args.out.now (omega (arith, length-digits_in 256 4 c.args.self))))
