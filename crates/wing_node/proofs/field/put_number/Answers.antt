-- Without room nothing is put (`put-short`); else the number's bytes stand (`put-over`) in the place of that part (`part-sets`).
use mathlib.Core.Path.{◌≡◌, sym, ◌∙◌, ap}
use mathlib.Core.Bool.{true}
use Prim.Native.Nat.{◌+◌, ◌-◌}
use native.Mathlib.Omega.{arith}
use lib.ListN.{length, take, drop, length-drop}
use lib.Seq.{length-take-le}
use borrow.Rule.Slice.PartMut.{put_mid}
use Rattle.wing_node.specs.Field.{bytes_of, put}
use Rattle.wing_node.proofs.Numerals.Numbers.{length-digits_in}
use Rattle.wing_node.proofs.Numerals.Placed.{put-short, put_whole, put-over, part-sets}
use Rattle.wing_node.proofs.field.put_number.Goals as goal

pub returns-then-left-WIDTH : goal.returns-then-left-WIDTH
returns-then-left-WIDTH g c =
    let w = g.T.BigEndian.WIDTH in
    let n = g.T.BigEndian.bits c.args.n in
    sym (put-short (bytes_of w n) _ _ (omega (arith, c.WIDTH.ensures, length-digits_in 256 w n)))

pub returns : goal.returns
returns g c =
    let w = g.T.BigEndian.WIDTH in
    let bs = bytes_of w (g.T.BigEndian.bits c.args.n) in
    let out = c.args.out.now in
    let at = c.args.at in
    let l : length bs ≡ w = length-digits_in 256 w (g.T.BigEndian.bits c.args.n) in
    let some = g.met.T.BigEndian.takes_bytes in
    let k : at + c.WIDTH-2.result - at ≡ length bs = omega (arith, c.WIDTH-2.ensures, l) in
    let e : length (take (at + c.WIDTH-2.result - at) (drop at out)) ≡ length bs =
    length-take-le _ (drop at out) (omega (arith, c.WIDTH.ensures, k, l, length-drop at out)) ∙ k in
    ap (λ x. put true (put_mid at (at + c.WIDTH-2.result - at) out x)) (c.lay_over.ensures ∙ put-over bs _ (omega (arith, some, l)) e) ∙
    ap (put true) (part-sets out bs at _ k (omega (arith, c.WIDTH.ensures, c.WIDTH-2.ensures, some))) ∙
    sym (put_whole bs at out (omega (arith, some, l)) (omega (arith, c.WIDTH.ensures, l)))
