-- The window by `kept`; the status comes back from its bits as it went in.
use mir.Syntax.{w32}
use mir.Val.{to_z, of_z}
use mathlib.Core.Path.{◌≡◌}
use borrow.Author.Rules.{rules}
use Rattle.wing_c.proofs.windows.followed_as.Goals as goal

pub returns : goal.returns
returns c =
    let back : to_z w32 (of_z w32 c.args.status) ≡ c.args.status = search rules in
    rw back (simp c.kept.ensures)
