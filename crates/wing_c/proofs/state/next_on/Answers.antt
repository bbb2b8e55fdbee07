-- The contract of `next_lent` on the store where it stands: what it leaves, and that this reads as the state after it (`next-in`), which is sound (`next-sound`).
use Prim.Native.Nat.{ℕ}
use mathlib.Core.Path.{◌≡◌, ◌∙◌, ap}
use mathlib.Core.List.{List}
use mir.Syntax.{w32}
use mir.Val.{to_z, of_z}
use Rattle.wing_wire.specs.State.{state_of, sound_state}
use Rattle.wing_saved.proofs.Saving.Types.{are-bytes}
use Rattle.wing_c.proofs.Keeps.{lent-part, kept-typed, next-sound, next-in}
use borrow.Author.Rules.{rules}
use Rattle.wing_c.proofs.state.next_on.Goals as goal

pub next_lent-r-requires : goal.next_lent-r-requires
next_lent-r-requires c =
    (ap (λ (l : List ℕ). sound_state (state_of c.args.c l)) (lent-part c.args.state.now) ∙ c.requires.0, c.requires.2)

pub keep-requires : goal.keep-requires
keep-requires c = (
  let state = c.args.state.now in
      let typed = kept-typed c.args.c _ c.well_formed.1.0 state (are-bytes state (λ i. (c.slice_known-1.given i).fits)) c.requires.1 in
      let are = are-bytes c.args.bytes.now (λ i. (c.type_inv.bytes i).fits) in
      next-sound state c.args.c c.args.bytes.now c.args.out.now c.requires.1 c.next_lent-r.result c.next_lent-r.new.store _ c.next_lent-r.ensures typed are c.requires.0,
  search rules,
)

pub returns : goal.returns
returns c =
    let back : to_z w32 (of_z w32 c.next_lent-r.result.control.node) ≡ c.next_lent-r.result.control.node = search rules in
    let p = next-in c.args.state.now c.args.c c.args.bytes.now c.args.out.now c.requires.1 c.next_lent-r.result c.next_lent-r.new.store _ c.next_lent-r.ensures (rw back at c.event.ensures)
    c.keep.ensures in
    record { out_after = p.0; state_after = p.1 }
