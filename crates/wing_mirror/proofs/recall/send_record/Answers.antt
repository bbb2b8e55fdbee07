-- Each arm is the kind of value that `value_in` gives (`integer-held`, `float-held`, `string-held`), by the contract of the writer that it calls; a string of a
-- record that has 01's form may be stored (`read-storable`) and so is never refused for itself (`string-sent`).
use Prim.Native.Nat.{ℕ, min}
use mathlib.Core.Bool.{true}
use mathlib.Core.Path.{◌≡◌, refl, sym, ◌∙◌, ap}
use mathlib.Core.List.{List}
use native.Mathlib.Omega.{arith}
use mir.Syntax.{w32}
use mir.Val.{to_z, of_z}
use lib.ListN.{take, length}
use lib.Seq.{length-take-le}
use Rattle.wing_node.specs.Value.{string}
use Rattle.wing_wire.specs.Write.{write_of}
use Rattle.wing_mirror.specs.Origin.{origin_of}
use Rattle.wing_mirror.specs.Entry.{Entry, entry, storable}
use Rattle.wing_mirror.specs.Record.{origin_byte, entry_in, payload_in}
use Rattle.wing_mirror.specs.Recall.{set_of}
use Rattle.wing_mirror.proofs.Records.Said.{entry-held, integer-held, float-held, string-held}
use Rattle.wing_mirror.proofs.Records.Trips.{read-storable}
use Rattle.wing_mirror.proofs.Calls.Orders.{string-sent}
use borrow.Author.Rules.{rules}
use Rattle.wing_mirror.proofs.recall.send_record.Goals as goal

pub slice_bounds-set_string-end : goal.slice_bounds-set_string-end
slice_bounds-set_string-end c =
    let size : length c.payload-bytes.result.now ≡ 256 = search rules in
    sym (length-take-le _ _ (omega (arith, c.min-len.ensures, size)))

pub returns-in-Integer : goal.returns-in-Integer
returns-in-Integer c =
    let id = c.id_in-id.result in
    let w = c.value_in-value.result in
    let o = origin_of (origin_byte c.args.rec.now) in
    let h = entry-held id w o (payload_in c.args.rec.now) c.args.rec.now c.id_in-id.ensures c.value_in-value.ensures refl in
    let x = c.in-Integer.x in
    let back-i : to_z w32 (of_z w32 id) ≡ id = search rules in
    let back-x : to_z w32 (of_z w32 x) ≡ x = search rules in
    rw (back-i, back-x) at c.set_int.ensures
    ∙ ap (λ (e : Entry). write_of (set_of e) c.args.out.now) (integer-held id w o (payload_in c.args.rec.now) c.args.rec.now h x c.in-Integer.is)

pub returns-in-Float : goal.returns-in-Float
returns-in-Float c =
    let id = c.id_in-id.result in
    let w = c.value_in-value.result in
    let o = origin_of (origin_byte c.args.rec.now) in
    let h = entry-held id w o (payload_in c.args.rec.now) c.args.rec.now c.id_in-id.ensures c.value_in-value.ensures refl in
    let back-i : to_z w32 (of_z w32 id) ≡ id = search rules in
    rw back-i at c.set_float.ensures
    ∙ ap (λ (e : Entry). write_of (set_of e) c.args.out.now) (float-held id w o (payload_in c.args.rec.now) c.args.rec.now h c.in-Float.bits c.in-Float.is)

pub returns-in-String : goal.returns-in-String
unfolding entry_in
returns-in-String c =
    let id = c.id_in-id.result in
    let w = c.value_in-value.result in
    let o = origin_of (origin_byte c.args.rec.now) in
    let h = entry-held id w o (payload_in c.args.rec.now) c.args.rec.now c.id_in-id.ensures c.value_in-value.ensures refl in
    let r = c.args.rec.now in
    let n = c.in-String.n in
    let p = c.payload-bytes.result.now in
    let size : length p ≡ 256 = search rules in
    let back-i : to_z w32 (of_z w32 id) ≡ id = search rules in
    let held : entry id (string (take n p)) o ≡ entry_in r = ap (λ (q : List ℕ). entry id (string (take n q)) o) c.payload-bytes.ensures ∙ string-held id w o (payload_in r) r h n c.in-String.is in
    let good : storable (string (take n p)) ≡ true = ap (λ (e : Entry). storable e.value) held ∙ read-storable r c.told-rec (λ i. omega (arith, c.fits-rec i)) c.requires in
    rw back-i at c.set_string.ensures
    ∙ string-sent id n c.min-len.result p c.args.out.now (c.min-len.ensures ∙ ap (min n) (sym size)) good
    ∙ ap (λ (e : Entry). write_of (set_of e) c.args.out.now) held
