-- A string's bytes, laid at the front of an array (`pairs-laid`), are tested (`fault-text`); a longer one is too long (`fault-long`).
use mathlib.Core.Path.{ap, ◌∙◌}
use native.Mathlib.Omega.{arith}
use Rattle.wing_node.specs.Refusal.{string_fault}
use Rattle.wing_listing.proofs.Texts.Hexes.{length_from}
use Rattle.wing_listing.proofs.Texts.Values.{value-pairs, pairs-laid, fault-long, fault-text, fault-none}
use Rattle.wing_listing.proofs.line.value_fault.Goals as goal

pub lay_bytes-requires : goal.lay_bytes-requires
lay_bytes-requires c =
    let s = c.args.s.now in
    (value-pairs c.args.kind s c.if-kind-eq115.true c.requires, omega (arith, length_from s, c.if-s-le512.true))

pub overflow_cast-s : goal.overflow_cast-s
overflow_cast-s c = omega (arith, c.if-s-le512.true)

pub returns-then-s-le512 : goal.returns-then-s-le512
returns-then-s-le512 c =
    let s = c.args.s.now in
    let h = c.if-s-le512.true in
    let p = pairs-laid _ _ s c.lay_bytes.ensures (omega (arith, length_from s, h)) in
    c.string_fault.ensures ∙ ap string_fault p ∙ fault-text c.args.kind s c.if-kind-eq115.true c.requires h

pub returns-then-kind-eq115 : goal.returns-then-kind-eq115
returns-then-kind-eq115 c =
    fault-long c.args.kind c.args.s.now c.if-kind-eq115.true c.requires c.if-s-le512.false

pub returns : goal.returns
returns c =
    fault-none c.args.kind c.args.s.now c.if-kind-eq115.false c.requires
