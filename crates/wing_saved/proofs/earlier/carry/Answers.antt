-- What `lay` leaves of a store of as many bytes are the bytes (law `laid_same`).
use Prim.Native.Nat.{ℕ}
use mathlib.Core.Path.{◌≡◌, ◌∙◌, sym}
use mir.Val.{to_z, of_z}
use mir.Syntax.{w32}
use lib.ListN.{replicate, length-replicate}
use Rattle.wing_wire.specs.State.{body_limit}
use Rattle.wing_saved.proofs.Saving.Fronts.{laid_same}
use borrow.Author.Rules.{rules}
use Rattle.wing_saved.proofs.earlier.carry.Goals as goal

pub returns : goal.returns
returns c =
    let a = c.args in
    let k : to_z w32 (of_z w32 a.c.node) ≡ a.c.node = search rules in
    let e : c.lay.new.out ≡ a.bytes.now = c.lay.ensures ∙ laid_same a.bytes.now (replicate body_limit 0) (length-replicate {A = ℕ} body_limit 0 ∙ sym (search rules)) in
    rw (c.carry_over.ensures, k, e, c.narrow-was.ensures)
