-- Each figure is what `figures_kept` has, by the contracts of `sum_of`, `quotient` and `reading_at`; a quotient of levels is at most 65,535.
use Prim.Native.Nat.{◌/◌, ◌%◌, ◌≤◌, ◌<◌}
use mathlib.Core.Path.{◌≡◌}
use native.Mathlib.Omega.{arith}
use native.Mathlib.Nat.{mul_comm, mod-lt, div-le_of_le-mul}
use mir.Syntax.{w16, w32}
use mir.Val.{to_z, of_z}
use Rattle.wing_meters.specs.Kept.{figures_kept}
use borrow.Author.Rules.{rules}
use Rattle.wing_meters.proofs.kept.figures_in.Goals as goal

pub overflow_cast-quotient : goal.overflow_cast-quotient
overflow_cast-quotient c =
    let k = c.args.kept.control in
    let most : k.sum / k.held ≤ 65535 = div-le_of_le-mul k.held (omega (arith, c.args.kept.in_range.sum, mul_comm 65535 k.held)) in
    omega (arith, c.quotient.ensures)

pub overflow_cast-result : goal.overflow_cast-result
overflow_cast-result c =
    let k = c.args.kept.control in
    let less : k.sum % k.held < k.held = mod-lt k.sum (omega arith) in
    omega arith

pub returns : goal.returns
unfolding figures_kept
returns c =
    let s : to_z w32 (of_z w32 c.sum_of.result) ≡ c.sum_of.result = search rules in
    let m : to_z w16 (of_z w16 c.reading_at.result) ≡ c.reading_at.result = search rules in
    let t : to_z w16 (of_z w16 c.reading_at-2.result) ≡ c.reading_at-2.result = search rules in
    rw
    (s, m, t, c.sum_of.ensures, c.reading_at.ensures, c.quotient.ensures, c.reading_at-2.ensures)
