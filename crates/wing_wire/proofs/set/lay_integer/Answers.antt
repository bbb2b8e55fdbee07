-- Each return is a case of `integer_bytes` (`one_byte`, `two_bytes`, `four_bytes`) by what `is_from` tells, and the law `then` joins the lays.
use mir.Syntax.{w16, w32}
use Rattle.wing_wire.proofs.Writing.Lays.{then}
use mir.Facts.{to_z-of_z}
use mathlib.Core.Path.{sym, ◌∙◌, refl}
use Rattle.wing_wire.proofs.Writing.Choices.{small, half, one_byte, two_bytes, four_bytes}
use Rattle.wing_node.proofs.Numerals.Signs.{writes}
use Rattle.wing_wire.proofs.set.lay_integer.Goals as goal

pub overflow_cast-value : goal.overflow_cast-value
overflow_cast-value c =
    let z = to_z-of_z c.ranges.value in
    let r = small c.args.value (rw z at (sym c.is_from.ensures ∙ c.if-is_from.true)) in
    rw z (r.0, record { fits = r.1 })

pub returns-then-is_from : goal.returns-then-is_from
returns-then-is_from c =
    let z = to_z-of_z c.ranges.value in
    rw (one_byte c.args.value (rw z at (sym c.is_from.ensures ∙ c.if-is_from.true))) (rw z at c.lay.ensures)

pub overflow_cast-value-then-is_from-2 : goal.overflow_cast-value-then-is_from-2
overflow_cast-value-then-is_from-2 c =
    let z = to_z-of_z c.ranges.value in
    rw z (record { sfits = half c.args.value (rw z at (sym c.is_from-2.ensures ∙ c.if-is_from-2.true)) })

pub returns-then-is_from-2 : goal.returns-then-is_from-2
returns-then-is_from-2 c =
    let z = to_z-of_z c.ranges.value in
    let f = rw z at (sym c.is_from.ensures ∙ c.if-is_from.false) in
    let t = rw z at (sym c.is_from-2.ensures ∙ c.if-is_from-2.true) in
    let y = to_z-of_z {w = w16} {z = c.args.value} (record { sfits = half c.args.value t }) in
    rw (two_bytes c.args.value f t) (then c.lay-next.ensures (rw (c.cast_unsigned.ensures, z, y, writes w16 refl c.args.value) at c.lay_number.ensures.laid))

pub returns : goal.returns
returns c =
    let z = to_z-of_z c.ranges.value in
    let f = rw z at (sym c.is_from.ensures ∙ c.if-is_from.false) in
    let t = rw z at (sym c.is_from-2.ensures ∙ c.if-is_from-2.false) in
    rw (four_bytes c.args.value f t) (then c.lay-next-2.ensures (rw (z, writes w32 refl c.args.value) at c.lay_number-2.ensures.laid))
