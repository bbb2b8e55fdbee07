-- Each return is the branch of `head_from_under` with those tests; what `control_in` and `head_of` say makes the test of the front that of the bytes' own fields.
use mathlib.Core.Bool.{true, false}
use mathlib.Core.Path.{◌≡◌, sym, ◌∙◌}
use borrow.Author.Tests.{eq-eqb, ne_eqb}
use Rattle.wing_saved.proofs.Saving.Fronts.{starts_begins}
use Rattle.wing_saved.specs.Saved.{head_under, control_in, begins, head_from_under}
use Rattle.wing_saved.proofs.head_under.Goals as goal

pub returns-then-starts_with : goal.returns-then-starts_with
unfolding head_from_under
returns-then-starts_with c =
    let v = c.args.version in
    let s = c.args.bytes.now in
    let k = c.control_in-c.ensures in
    let b : begins (head_under v (control_in s)) s ≡ true = rw (c.head_of-front.ensures, k) at (sym (c.starts_with.ensures.value ∙ starts_begins c.head_of-front.result s) ∙ c.if-starts_with.true) in
    rw k (simp (eq-eqb _ _ c.if-bytes-eq-SIZE.true, b))

pub returns-else-starts_with : goal.returns-else-starts_with
unfolding head_from_under
returns-else-starts_with c =
    let v = c.args.version in
    let s = c.args.bytes.now in
    let b : begins (head_under v (control_in s)) s ≡ false = rw (c.head_of-front.ensures, c.control_in-c.ensures) at (sym (c.starts_with.ensures.value ∙ starts_begins c.head_of-front.result s) ∙ c.if-starts_with.false) in
    simp (eq-eqb _ _ c.if-bytes-eq-SIZE.true, b)

pub returns-else-bytes-eq-SIZE : goal.returns-else-bytes-eq-SIZE
unfolding head_from_under
returns-else-bytes-eq-SIZE c = simp (ne_eqb _ _ c.if-bytes-eq-SIZE.false)
