-- Each arm is the kind of value that `value_in` gives (`integer-said`, `float-said`), by the contracts of `number_read`, `payload` and `string_read`.
use Prim.Native.Nat.{ℕ}
use mathlib.Core.Path.{◌≡◌, ◌∙◌, ap}
use mathlib.Core.List.{List}
use native.Mathlib.Omega.{arith}
use mir.Syntax.{w32}
use mir.Val.{to_z, of_z}
use lib.ListN.{length, take, length-drop}
use Rattle.wing_node.specs.Value.{string}
use Rattle.wing_mirror.specs.Entry.{entry}
use Rattle.wing_mirror.specs.Record.{payload_in}
use Rattle.wing_mirror.specs.Query.{read_of}
use Rattle.wing_mirror.proofs.Records.Said.{entry-held, integer-said, float-said, string-held}
use borrow.Author.Rules.{rules}
use Rattle.wing_mirror.proofs.query.read_record.Goals as goal

pub string_read-requires : goal.string_read-requires
string_read-requires c =
    let r = c.args.rec.now in
    omega (arith, ap length c.payload.ensures, length-drop 8 r)

pub returns-in-Integer : goal.returns-in-Integer
returns-in-Integer c =
    let r = c.args.rec.now in
    let id = c.id_in-id.result in
    let w = c.value_in-value.result in
    let o = c.origin_in-origin.result in
    let h = entry-held id w o (payload_in r) r c.id_in-id.ensures c.value_in-value.ensures c.origin_in-origin.ensures in
    let back : to_z w32 (of_z w32 id) ≡ id = search rules in
    c.number_read.ensures ∙ rw back (integer-said id w o (payload_in r) r h _ c.in-Integer.is)

pub returns-in-Float : goal.returns-in-Float
returns-in-Float c =
    let r = c.args.rec.now in
    let id = c.id_in-id.result in
    let w = c.value_in-value.result in
    let o = c.origin_in-origin.result in
    let h = entry-held id w o (payload_in r) r c.id_in-id.ensures c.value_in-value.ensures c.origin_in-origin.ensures in
    let back : to_z w32 (of_z w32 id) ≡ id = search rules in
    c.number_read-in-Float.ensures ∙ rw back (float-said id w o (payload_in r) r h _ c.in-Float.is)

pub returns-in-String : goal.returns-in-String
returns-in-String c =
    let r = c.args.rec.now in
    let id = c.id_in-id.result in
    let w = c.value_in-value.result in
    let o = c.origin_in-origin.result in
    let h = entry-held id w o (payload_in r) r c.id_in-id.ensures c.value_in-value.ensures c.origin_in-origin.ensures in
    let n = c.in-String.n in
    let back : to_z w32 (of_z w32 id) ≡ id = search rules in
    c.string_read.ensures
    ∙ rw back (ap (λ (p : List ℕ). read_of (entry id (string (take n p)) o)) c.payload.ensures
    ∙ ap read_of (string-held id w o (payload_in r) r h n c.in-String.is))
