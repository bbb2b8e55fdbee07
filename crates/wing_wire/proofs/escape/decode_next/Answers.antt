-- Each return is the case of `decode_next_of`: a pending byte, a byte at the place, which the contract of `decode_byte` decodes, or none.
use mathlib.Core.Path.{◌≡◌}
use mir.Val.{to_z, of_z}
use mir.Syntax.{w8}
use borrow.Author.Tests.{lt-ltb, le-ltb}
use Rattle.wing_wire.specs.Escape.{byte_next, decode_next_of}
use borrow.Author.Rules.{rules}
use Rattle.wing_wire.proofs.escape.decode_next.Goals as goal

pub returns-then-at-bytes : goal.returns-then-at-bytes
unfolding decode_next_of byte_next
returns-then-at-bytes c = simp (c.in-None.is, lt-ltb _ _ c.if-at-bytes.true, ← c.decode_byte-d.ensures)

pub returns-else-at-bytes : goal.returns-else-at-bytes
unfolding decode_next_of byte_next
returns-else-at-bytes c = simp (c.in-None.is, le-ltb _ _ c.if-at-bytes.false)

pub returns-in-Some : goal.returns-in-Some
unfolding decode_next_of
returns-in-Some c =
    let k = c.args.e in
    let back : to_z w8 (of_z w8 k.channel) ≡ k.channel = search rules in
    simp (c.escape_of-after.ensures, c.in-Some.is) (rw back)
