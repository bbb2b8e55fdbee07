-- Both returns are the cases of `request_bytes` (`request-zero`, `request-other`), and the law `then` joins the lays.
use mathlib.Core.Path.{◌≡◌, sym, ap, ◌∙◌}
use lib.IntN.{pos}
use mir.Syntax.{w32}
use mir.Val.{to_z, of_z}
use Rattle.wing_wire.proofs.Writing.Choices.{request-zero, request-other}
use mir.Facts.{to_z-of_z}
use Rattle.wing_wire.proofs.Writing.Lays.{then}
use Rattle.wing_wire.specs.Command.{id_bytes}
use Rattle.wing_wire.proofs.request.lay_request.Goals as goal

pub returns-then-id-eq0 : goal.returns-then-id-eq0
returns-then-id-eq0 c =
    let z = to_z-of_z c.ranges.id in
    let e : c.args.id ≡ pos 0 = sym z ∙ ap (to_z w32) c.if-id-eq0.true in
    rw (e, request-zero c.args.what) (then c.lay-at.ensures c.lay.ensures)

pub returns : goal.returns
unfolding id_bytes
returns c =
    let z = to_z-of_z c.ranges.id in
    rw (request-other c.args.what c.args.id (λ e. c.if-id-eq0.false (ap (of_z w32) e)))
    (then (rw z at c.lay_id-at.ensures.laid) c.lay-2.ensures)
