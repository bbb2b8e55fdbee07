-- Each return is a law of what digits after a minus sign spell.
use Prim.Native.Nat.{◌-◌}
use mathlib.Core.Path.{◌∙◌, refl}
use native.Mathlib.Omega.{arith}
use Rattle.wing_listing.proofs.Printing.Values.{signed-passed}
use Rattle.wing_listing.proofs.Texts.Numbers.{negative-good, negative-none, negative-zero, negative-large}
use Rattle.wing_node.proofs.Numerals.Signs.{reads}
use mir.Syntax.{w32}
use Rattle.wing_listing.proofs.integer.negative_in.Goals as goal
use Rattle.wing_listing.proofs.integer.negative_in.Goals.{else-s-gt0-via-then-s-gt0+else-s-ne48, else-s-gt0-via-else-s-gt0}

pub overflow_cast-n : goal.overflow_cast-n
overflow_cast-n c =
    let s = c.args.s.now in
    let g = negative-good s c.if-s-gt0.true c.if-s-ne48.true (omega (arith, c.number_in-n.ensures, c.if-n-le2147483648.true)) in
    omega (arith, c.number_in-n.ensures, g.0)

pub returns-then-n-le2147483648 : goal.returns-then-n-le2147483648
returns-then-n-le2147483648 c =
    let s = c.args.s.now in
    let g = negative-good s c.if-s-gt0.true c.if-s-ne48.true (omega (arith, c.number_in-n.ensures, c.if-n-le2147483648.true)) in
    let e = c.cast_signed.ensures ∙ reads w32 refl (0x100000000 - c.number_in-n.result) in
    rw (signed-passed c.cast_signed.result (0x100000000 - c.number_in-n.result) e, e, c.number_in-n.ensures) g.1

pub returns-else-n-le2147483648 : goal.returns-else-n-le2147483648
returns-else-n-le2147483648 c = negative-large c.args.s.now (omega (arith, c.number_in-n.ensures))

pub returns-else-s-gt0 : goal.returns-else-s-gt0
returns-else-s-gt0 c =
    let s = c.args.s.now in
    elim c.else-s-gt0.branch [
      | else-s-gt0-via-then-s-gt0+else-s-ne48 v ↦ negative-zero s v.if-s-ne48.false
      | else-s-gt0-via-else-s-gt0 v ↦ negative-none s (omega arith)
    ]
