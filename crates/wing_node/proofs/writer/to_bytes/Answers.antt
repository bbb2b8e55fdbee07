-- Each return is a case of `body_of_fields`: refused for what is lent, for the body's length (`body-size`) or for the output's, or written.
use mathlib.Core.Path.{ap, ◌∙◌}
use native.Mathlib.Omega.{arith}
use Rattle.wing_node.specs.Writer.{lent, body_effect}
use Rattle.wing_node.proofs.Refusals.{handed-on}
use Rattle.wing_node.proofs.Bodies.Given.{body-size, names-short, added-small, effect-refused, effect-large, effect-short, effect-written}
use Rattle.wing_node.proofs.writer.to_bytes.Goals as goal
use Rattle.std.specs.Prelude.{Ok}

pub returns-in_err-lent_fault : goal.returns-in_err-lent_fault
returns-in_err-lent_fault c =
    let args = c.args in
    ap (λ r. body_effect r args.out.now) (handed-on _ _ c.from_residual.ensures.1) ∙
    effect-refused args.d (lent args.name.now args.long_name.now args.items.now) args.out.now _ c.in_err-lent_fault.ensures

pub overflow_add-len-2 : goal.overflow_add-len-2
overflow_add-len-2 c =
    let args = c.args in
    omega (arith, names-short args.d (lent args.name.now args.long_name.now args.items.now) args.out.now c.in_ok-lent_fault.ensures)

pub overflow_add-len-3 : goal.overflow_add-len-3
overflow_add-len-3 c =
    let args = c.args in
    omega (arith, c.added_len.ensures, added-small c.from-kind.result, names-short args.d (lent args.name.now args.long_name.now args.items.now) args.out.now c.in_ok-lent_fault.ensures)

pub overflow_add-len-4 : goal.overflow_add-len-4
overflow_add-len-4 c =
    let args = c.args in
    omega (arith, c.added_len.ensures, added-small c.from-kind.result, names-short args.d (lent args.name.now args.long_name.now args.items.now) args.out.now c.in_ok-lent_fault.ensures)

pub returns-then-len-gt4096 : goal.returns-then-len-gt4096
returns-then-len-gt4096 c =
    let args = c.args in
    let l = lent args.name.now args.long_name.now args.items.now in
    let none = c.in_ok-lent_fault.ensures in
    let size = body-size args.d l c.from-kind.result c.added_len.result c.from-kind.ensures c.added_len.ensures in
    effect-large args.d l args.out.now none (omega (arith, size, c.if-len-gt4096.true))

pub returns-then-out-len : goal.returns-then-out-len
returns-then-out-len c =
    let args = c.args in
    let l = lent args.name.now args.long_name.now args.items.now in
    let none = c.in_ok-lent_fault.ensures in
    let size = body-size args.d l c.from-kind.result c.added_len.result c.from-kind.ensures c.added_len.ensures in
    effect-short args.d l args.out.now none (omega (arith, size, c.if-len-gt4096.false)) (omega (arith, size, c.if-out-len.true))

pub lay_body-requires : goal.lay_body-requires
lay_body-requires c =
    let args = c.args in
    let l = lent args.name.now args.long_name.now args.items.now in
    let short = names-short args.d l args.out.now c.in_ok-lent_fault.ensures in
    record { kind_value = (c.from-kind.ensures, short.0, short.1); in_bounds = omega (arith, c.added_len.ensures, c.if-out-len.false) }

pub returns : goal.returns
returns c =
    let args = c.args in
    let l = lent args.name.now args.long_name.now args.items.now in
    let none = c.in_ok-lent_fault.ensures in
    let size = body-size args.d l c.from-kind.result c.added_len.result c.from-kind.ensures c.added_len.ensures in
    (λ j. body_effect (Ok (size j)) (c.lay_body.ensures j)) ∙
    effect-written args.d l args.out.now none (omega (arith, size, c.if-len-gt4096.false)) (omega (arith, size, c.if-out-len.false))
