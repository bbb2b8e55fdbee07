-- By the contract of the core the answer and the store are those of `advance_of`, of which `core-is-next` says that they are what a next call gives.
use mathlib.Core.Path.{sym, subst}
use Rattle.wing_wire.specs.State.{state_of}
use Rattle.wing_wire.specs.Stream.{Run}
use Rattle.wing_wire.specs.Repeated.{CoreGives}
use Rattle.wing_wire.proofs.Reading.Repeats.{core-is-next}
use Rattle.promises.proofs.wire.advance.Goals as goal

pub returns : goal.returns
returns c = λ accepted.
    let a = c.args in
    let s = state_of a.c a.store.now in
    subst (λ (x : Run). CoreGives x s a.bytes.now) (sym c.advance.ensures) (core-is-next s a.bytes.now accepted)
