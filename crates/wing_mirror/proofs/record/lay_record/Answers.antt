-- The contract of `lay_head` leaves id and origin over zeros, and each arm lays kind, length and payload of its variant over that, which is the record
-- (`record-laid`).
use Prim.Native.Nat.{ℕ}
use mathlib.Core.Path.{◌≡◌, refl, ◌∙◌, ap}
use mir.Facts.{to_z-of_z}
use mir.Syntax.{w32}
use mir.Val.{to_z, of_z}
use lib.ListN.{take}
use Rattle.wing_node.specs.Field.{bytes_of}
use Rattle.wing_node.specs.Value.{integer, float, string, node_value}
use Rattle.wing_mirror.specs.Record.{kind_of, payload_of, laid_from}
use Rattle.wing_mirror.proofs.Tables.Laying.{record-laid, short}
use borrow.Author.Rules.{rules}
use Rattle.wing_node.proofs.Numerals.Signs.{writes}
use Rattle.wing_mirror.proofs.record.lay_record.Goals as goal

pub lay_string-requires : goal.lay_string-requires
unfolding node_value
lay_string-requires c =
    short (take c.in-String.n c.args.string.now) (rw c.in-String.is at c.requires.1)

pub returns-in-Integer : goal.returns-in-Integer
unfolding kind_of payload_of node_value
returns-in-Integer c =
    let a = c.args in
    let x = c.in-Integer.x in
    let back : to_z w32 (of_z w32 x) ≡ x = search rules in
    rw c.in-Integer.is (record-laid a.id (integer x) a.origin a.out.now c.lay_head.new.out _ c.requires.0 (rw (to_z-of_z c.ranges.id) at c.lay_head.ensures) (c.lay_number.ensures ∙ ap (λ (u : ℕ). laid_from c.lay_head.new.out 0 (bytes_of 4 u)) (c.cast_unsigned.ensures ∙ ap (of_z w32) back ∙ writes w32 refl x)))

pub returns-in-Float : goal.returns-in-Float
unfolding kind_of payload_of node_value
returns-in-Float c =
    let a = c.args in
    rw c.in-Float.is (record-laid a.id (float c.in-Float.bits) a.origin a.out.now c.lay_head.new.out _ c.requires.0 (rw (to_z-of_z c.ranges.id) at c.lay_head.ensures) c.lay_number-in-Float.ensures)

pub returns-in-String : goal.returns-in-String
unfolding kind_of payload_of node_value
returns-in-String c =
    let a = c.args in
    rw c.in-String.is (record-laid a.id (string (take c.in-String.n a.string.now)) a.origin a.out.now c.lay_head.new.out _ c.requires.0 (rw (to_z-of_z c.ranges.id) at c.lay_head.ensures) c.lay_string.ensures)
