-- What `load_earlier` answers says what the bytes are carried over as; its bytes read as that state (`carried-reads`).
use mathlib.Core.Path.{refl, sym, ◌∙◌, ◌≡◌}
use mathlib.Core.List.{List}
use Prim.Native.Nat.{ℕ}
use Rattle.std.specs.Prelude.{Err}
use Rattle.wing_node.specs.Result.{Result}
use Rattle.wing_wire.specs.declared.state.State.{State}
use Rattle.wing_saved.specs.Earlier.{earlier_from, carried_from, load_earlier_of}
use Rattle.wing_saved.proofs.Saving.Types.{are-bytes}
use Rattle.wing_c.specs.Kept.{carried_kept, state_carried}
use Rattle.wing_c.proofs.Effects.{command-as}
use Rattle.wing_c.proofs.Keeps.{carried-reads}
use Rattle.wing_c.proofs.state.wing_state_carry_over.Goals as goal

carried : (bytes : List ℕ) {r : Result State} (s : Result State) → r ≡ load_earlier_of bytes → r ≡ s → carried_from (earlier_from bytes) ≡ s
unfolding load_earlier_of
carried bytes s e i = sym e ∙ i

pub returns-in-Ok : goal.returns-in-Ok
unfolding carried_kept state_carried
returns-in-Ok c =
    let a = c.args in
    let over = carried a.earlier.now _ c.load_earlier.ensures c.in-Ok.is in
    let are = are-bytes a.earlier.now (λ i. (c.type_inv.earlier i).fits) in
    rw over (record { state_after = command-as c.save.result c.written.ensures c.save.ensures; state_after_2 = carried-reads a.earlier.now _ are over a.state.now c.save.ensures })

pub returns-in-Err : goal.returns-in-Err
unfolding carried_kept state_carried
returns-in-Err c =
    let over = carried c.args.earlier.now _ c.load_earlier.ensures c.in-Err.is in
    rw over (record { state_after = command-as (Err c.in-Err.why) c.written-in-Err.ensures refl; state_after_2 = λ _. refl })
