-- Each arm is `set_bytes` of that variant, by the contract of the writer that it calls; a string that may be stored is never refused for itself
-- (`string-sent`).
use mathlib.Core.Path.{◌≡◌, sym, ◌∙◌, ap}
use mathlib.Core.Bool.{true}
use mir.Facts.{to_z-of_z}
use mir.Syntax.{w32}
use mir.Val.{to_z, of_z}
use native.Mathlib.Omega.{arith}
use lib.ListN.{take}
use lib.Seq.{length-take-le}
use Rattle.wing_node.specs.Value.{NodeValue, string, node_value}
use Rattle.wing_wire.specs.Write.{write_of}
use Rattle.wing_wire.specs.Command.{set_bytes}
use Rattle.wing_mirror.specs.Entry.{storable}
use Rattle.wing_mirror.proofs.Calls.Orders.{string-sent}
use borrow.Author.Rules.{rules}
use Rattle.wing_mirror.proofs.send.send.Goals as goal

pub slice_bounds-set_string-end : goal.slice_bounds-set_string-end
slice_bounds-set_string-end c = sym (length-take-le _ _ (omega (arith, c.min-len.ensures)))

pub returns-in-Integer : goal.returns-in-Integer
unfolding node_value
returns-in-Integer c =
    let a = c.args in
    let x = c.in-Integer.x in
    let back : to_z w32 (of_z w32 x) ≡ x = search rules in
    rw (to_z-of_z c.ranges.id, back) at c.set_int.ensures ∙ ap (λ (w : NodeValue). write_of (set_bytes a.id w) a.out.now) (simp c.in-Integer.is)

pub returns-in-Float : goal.returns-in-Float
unfolding node_value
returns-in-Float c =
    let a = c.args in
    rw (to_z-of_z c.ranges.id) at c.set_float.ensures ∙ ap (λ (w : NodeValue). write_of (set_bytes a.id w) a.out.now) (simp c.in-Float.is)

pub returns-in-String : goal.returns-in-String
unfolding node_value
returns-in-String c =
    let a = c.args in
    let n = c.in-String.n in
    let same : string (take n a.string.now) ≡ node_value a.value a.string.now = simp c.in-String.is in
    let good : storable (string (take n a.string.now)) ≡ true = rw same c.requires in
    rw (to_z-of_z c.ranges.id) at c.set_string.ensures ∙ string-sent a.id n c.min-len.result a.string.now a.out.now c.min-len.ensures good ∙ ap (λ (w : NodeValue). write_of (set_bytes a.id w) a.out.now) same
