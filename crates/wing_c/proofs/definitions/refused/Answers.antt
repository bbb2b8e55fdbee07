-- `sent_back` gives status and good; the rest is 0.
use mir.Syntax.{w32}
use mir.Val.{to_z, of_z}
use mathlib.Core.Path.{◌≡◌}
use borrow.Author.Rules.{rules}
use Rattle.wing_c.proofs.definitions.refused.Goals as goal

pub returns : goal.returns
returns c =
    let back : to_z w32 (of_z w32 c.sent_back-o.result.status) ≡ c.sent_back-o.result.status = search rules in
    rw back (simp c.sent_back-o.ensures)
