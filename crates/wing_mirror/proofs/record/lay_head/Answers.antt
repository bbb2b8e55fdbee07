-- The store of the id by `put_number`, laid at its place (`field-sets`), and that of the origin's number are those of `head_from` in order.
use Prim.Native.Nat.{ℕ}
use mathlib.Core.Path.{◌≡◌, ap₂}
use mathlib.Core.List.{List}
use native.Mathlib.Omega.{arith}
use mir.Facts.{to_z-of_z}
use lib.ListN.{set}
use lib.Seq.{sets}
use Rattle.wing_node.specs.Field.{bytes_of}
use Rattle.wing_node.specs.Signed.{unsigned}
use Rattle.wing_node.proofs.Numerals.Placed.{field-sets}
use Rattle.wing_mirror.proofs.record.lay_head.Goals as goal

pub returns : goal.returns
returns c =
    let a = c.args in
    let n = unsigned 31 a.id in
    let laid : c.put_number.new.out ≡ sets a.out.now 0 (bytes_of 4 n) = field-sets 4 n 0 a.out.now _ _ (omega arith) (omega arith) (rw (to_z-of_z c.ranges.id) at c.put_number.ensures) in
    ap₂ (λ (l : List ℕ) (b : ℕ). set l 5 b) laid c.from.ensures
