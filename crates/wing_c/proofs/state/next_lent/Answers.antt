-- The core gives the run, whose answer, store and bytes are those of a next call (`next-left`).
use Prim.Native.Nat.{ℕ}
use mathlib.Core.Path.{◌∙◌, ap}
use lib.ListN.{take}
use Rattle.wing_wire.specs.State.{state_of}
use Rattle.wing_wire.specs.Reader.{over}
use Rattle.wing_c.proofs.Loads.{next-left}
use Rattle.wing_c.proofs.state.next_lent.Goals as goal

pub returns : goal.returns
returns c =
    next-left (state_of c.args.c c.args.store.now) c.args.bytes.now c.args.out.now c.advance-r.result c.advance-r.new.store c.requires.0 c.requires.1 c.advance-r.ensures
    c.release.ensures
    (c.copy_front.ensures ∙ ap (λ (n : ℕ). over (take n c.advance-r.new.store) c.args.out.now) c.bytes_of.ensures)
