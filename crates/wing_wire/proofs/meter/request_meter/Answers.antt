-- Each return is a case of `request_meter` (`too_many`, `spent`, `request-answer`); no request is over 212 bytes (`meter-request-le`).
use borrow.Author.Rules.{rules}
use lib.ListN.{take}
use Prim.Native.Nat.{◌+◌}
use mathlib.Core.Path.{ap, ◌∙◌}
use native.Mathlib.Omega.{arith}
use Rattle.wing_wire.specs.Meter.{meter_request, request_effect}
use Rattle.wing_node.proofs.Refusals.{handed-on}
use Rattle.wing_wire.proofs.Writing.Requests.{too_many, spent, request-answer}
use Rattle.wing_wire.proofs.Writing.Sizes.{meter-request-le}
use Rattle.wing_wire.proofs.meter.request_meter.Goals as goal

pub returns-then-count-gt64 : goal.returns-then-count-gt64
returns-then-count-gt64 c =
    too_many c.args.port c.args.last_id c.args.meters c.args.count c.args.out.now c.if-count-gt64.true

pub returns-then-last_id-eq65535 : goal.returns-then-last_id-eq65535
returns-then-last_id-eq65535 c =
    spent c.args.port c.args.last_id c.args.meters c.args.count c.args.out.now (omega arith) c.if-last_id-eq65535.true

pub write_by-requires-clause-bounded : goal.write_by-requires-clause-bounded
write_by-requires-clause-bounded c =
    let a = c.args in
    (meter_request a.port (a.last_id + 1) (take a.count a.meters), λ d r e p. search rules, meter-request-le a.port (a.last_id + 1) a.meters a.count (omega arith))

pub returns : goal.returns
returns c =
    let a = c.args in
    let e = c.in_ok-len.ensures (meter_request a.port (a.last_id + 1) (take a.count a.meters)) (λ d r e p. search rules) in
    request-answer a.port a.last_id a.meters a.count a.out.now (omega arith) c.if-last_id-eq65535.false e

pub returns-in_err-len : goal.returns-in_err-len
returns-in_err-len c =
    let a = c.args in
    let e = c.in_err-len.ensures (meter_request a.port (a.last_id + 1) (take a.count a.meters)) (λ d r e p. search rules) in
    ap (λ r. request_effect r c.write_by.new.out) (handed-on _ _ c.from_residual.ensures.1) ∙
    request-answer a.port a.last_id a.meters a.count a.out.now (omega arith) c.if-last_id-eq65535.false e
