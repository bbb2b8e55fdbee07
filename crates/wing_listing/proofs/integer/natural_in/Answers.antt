-- Each return is a law of what digits spell: few enough (`natural-good`), too many or no digits (`natural-large`), a leading zero (`natural-led`).
use mathlib.Core.Path.{sym, ◌∙◌, refl}
use native.Mathlib.Omega.{arith}
use Rattle.wing_listing.proofs.Printing.Values.{signed-passed}
use Rattle.wing_listing.proofs.Texts.Numbers.{natural-good, natural-led, natural-large}
use Rattle.wing_node.proofs.Numerals.Signs.{reads}
use mir.Syntax.{w32}
use Rattle.wing_listing.proofs.integer.natural_in.Goals as goal

pub returns-then-n-lt2147483648 : goal.returns-then-n-lt2147483648
returns-then-n-lt2147483648 c =
    let s = c.args.s.now in
    let l = sym c.is_led.ensures ∙ c.if-is_led.true in
    let e = c.cast_signed.ensures ∙ reads w32 refl c.number_in-n.result in
    rw (signed-passed c.cast_signed.result c.number_in-n.result e, e, c.number_in-n.ensures) (natural-good s l (omega (arith, c.number_in-n.ensures, c.if-n-lt2147483648.true)))

pub returns-else-n-lt2147483648 : goal.returns-else-n-lt2147483648
returns-else-n-lt2147483648 c = natural-large c.args.s.now (omega (arith, c.number_in-n.ensures))

pub returns-else-is_led : goal.returns-else-is_led
returns-else-is_led c = natural-led c.args.s.now (sym c.is_led.ensures ∙ c.if-is_led.false)
