-- The number's bytes are laid over the part that is as long (`put-over`), and then escaped.
use mathlib.Core.Path.{◌≡◌, sym, ◌∙◌}
use mathlib.Core.List.{[], ◌∷◌}
use native.Mathlib.Omega.{arith}
use lib.ListN.{length, take}
use lib.Seq.{length-take-le}
use Rattle.wing_node.specs.Field.{bytes_of}
use Rattle.wing_node.proofs.Numerals.Numbers.{length-digits_in}
use Rattle.wing_node.proofs.Numerals.Placed.{put-over}
use Rattle.wing_wire.proofs.laying.lay_number.Goals as goal

pub returns-clause-laid : goal.returns-clause-laid
returns-clause-laid g c =
    let w = g.T.BigEndian.WIDTH in
    let l = length-digits_in 256 w (g.T.BigEndian.bits c.args.n) in
    let some = g.met.T.BigEndian.takes_bytes in
    let e : length (take c.WIDTH.result (0 ∷ 0 ∷ 0 ∷ 0 ∷ [])) ≡ c.WIDTH.result = length-take-le _ (0 ∷ 0 ∷ 0 ∷ 0 ∷ []) (omega (arith, c.WIDTH.ensures, c.requires.narrow)) in
    let laid : c.lay_over.new.out ≡ bytes_of w (g.T.BigEndian.bits c.args.n) = c.lay_over.ensures ∙ put-over (bytes_of w (g.T.BigEndian.bits c.args.n)) _ (omega (arith, some, l)) (e ∙ c.WIDTH.ensures ∙ sym l) in
    rw laid at c.lay_escaped.ensures.laid
