-- An output that is too short stays as it was (the wire's law `short`); else the fields are laid over its front (law `whole`).
use mathlib.Core.Path.{refl}
use native.Mathlib.Omega.{arith}
use lib.Seq.{sets}
use Rattle.wing_wire.specs.Write.{Laid}
use Rattle.wing_wire.proofs.Laws.{writer-laws}
use Rattle.wing_saved.specs.Saved.{version, head_bytes}
use Rattle.wing_saved.proofs.Saving.Heads.{head-size}
use Rattle.wing_saved.proofs.lay_head.Goals as goal

pub returns-then-out-lt-HEAD : goal.returns-then-out-lt-HEAD
returns-then-out-lt-HEAD c =
    let a = c.args in
    writer-laws.short (head_bytes a.c) a.out.now (omega (arith, head-size version a.c))

pub returns : goal.returns
returns c =
    let a = c.args in
    let laid : Laid (head_bytes a.c) 0 a.out.now (sets a.out.now 0 (head_bytes a.c)) 27 = record { bytes = refl; next = omega (arith, head-size version a.c) } in
    rw (c.lay.ensures, c.head_of-head.ensures) (writer-laws.whole laid (omega (arith, head-size version a.c)))
