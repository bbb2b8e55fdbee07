-- Fewer bytes than the number takes read as 0 (`field-short`), which is the default; else the number of the part is that of the field (`field-there`).
use mathlib.Core.Path.{◌≡◌, sym, ◌∙◌, ap}
use Prim.Native.Nat.{◌+◌, ◌-◌}
use native.Mathlib.Omega.{arith}
use Rattle.wing_node.proofs.Numerals.Placed.{field-short, field-there}
use Rattle.wing_node.proofs.field.number_at.Goals as goal

pub returns-then-left-WIDTH : goal.returns-then-left-WIDTH
returns-then-left-WIDTH g c =
    let w = g.T.BigEndian.WIDTH in
    g.met.T.BigEndian.default_is_zero _ c.default.ensures ∙ ap g.T.BigEndian.value (sym (field-short w _ _ (omega (arith, c.WIDTH.ensures))))

pub returns : goal.returns
returns g c =
    let w = g.T.BigEndian.WIDTH in
    let at = c.args.at in
    let n : at + c.WIDTH-2.result - at ≡ w = omega (arith, c.WIDTH-2.ensures) in
    c.of_bytes.ensures ∙ ap g.T.BigEndian.value (field-there w at _ c.args.s.now n (omega (arith, c.WIDTH.ensures)))
