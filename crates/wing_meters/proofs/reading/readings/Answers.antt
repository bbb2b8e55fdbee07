-- The three ends of `readings_of`, in its order; what `follow` leaves is the window and the rows of all readings.
use mathlib.Core.Path.{sym, ap, ◌∙◌}
use mathlib.Core.List.{List}
use native.Mathlib.Omega.{arith}
use lib.IntN.{ℤ}
use lib.ListN.{length}
use Rattle.wing_meters.specs.Calls.{after_all, rows_effect, followed}
use Rattle.wing_meters.specs.declared.window.Window.{Window}
use Rattle.wing_meters.specs.declared.reading.Followed.{Followed}
use Rattle.wing_meters.proofs.Follows.{readings-unsound, readings-short, readings-taken}
use Rattle.wing_meters.proofs.reading.readings.Goals as goal
use Rattle.std.specs.Prelude.{Ok}

pub returns-then-out-xs : goal.returns-then-out-xs
returns-then-out-xs c =
    let a = c.args in
    let e = c.in-Some.ensures.0 in
    ap (λ (r : Followed). rows_effect r a.out.now) c.refuse.ensures ∙ sym (readings-short a.w a.xs.now a.out.now e (omega (arith, c.if-out-xs.true)))

pub follow-requires : goal.follow-requires
follow-requires c =
    (rw c.in-Some.ensures.1 c.in-Some.ensures.0, omega (arith, c.if-out-xs.false))

pub returns-else-out-xs : goal.returns-else-out-xs
returns-else-out-xs c =
    let a = c.args in
    let e = c.in-Some.ensures.0 in
    ap (λ (w : Window). rows_effect (followed (Ok (length a.xs.now)) w) c.follow.new.out) (rw c.in-Some.ensures.1 at c.follow.ensures.levels_after) ∙
    (ap (λ (o : List ℤ). rows_effect (followed (Ok (length a.xs.now)) (after_all a.w a.xs.now)) o) (rw c.in-Some.ensures.1 at c.follow.ensures.out_after) ∙
    sym (readings-taken a.w a.xs.now a.out.now e (omega (arith, c.if-out-xs.false))))

pub returns-in-None : goal.returns-in-None
returns-in-None c =
    let a = c.args in
    let e = c.in-None.ensures in
    ap (λ (r : Followed). rows_effect r a.out.now) c.refuse-in-None.ensures ∙ sym (readings-unsound a.w a.xs.now a.out.now e)
