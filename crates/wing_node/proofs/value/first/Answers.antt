-- `fill` leaves the first n bytes and zeros after them (`zeros-past`), and the length is that of those bytes (`answered`).
use mathlib.Core.Path.{◌≡◌}
use Prim.Native.Nat.{◌-◌}
use native.Mathlib.Omega.{arith}
use borrow.Author.Rules.{rules}
use borrow.Rule.Slice.PartMut.{put_mid}
use lib.ListN.{length, take}
use Rattle.std.proofs.lemmas.List.{length-take}
use Rattle.wing_node.proofs.Arrays.{zeros-past}
use Rattle.wing_node.proofs.Numerals.Answers.{answered}
use Rattle.wing_node.proofs.value.first.Goals as goal

pub returns : goal.returns
returns c =
    let a = c.args in
    let k = c.min-len.result in
    let l : length a.bytes ≡ 256 = search rules in
    answered (take a.n a.bytes) (put_mid k (256 - k) a.bytes c.fill.new.self) k (omega (arith, length-take a.n a.bytes)) (zeros-past 256 a.n k a.bytes c.fill.new.self l c.min-len.ensures (c.fill.ensures.after (λ y e. e)))
