-- The header copied to the front of out is laid there.
use mathlib.Core.Path.{sym, ap, ◌∙◌}
use mathlib.Core.List.{List, ◌++◌}
use Prim.Native.Nat.{ℕ}
use lib.ListN.{drop}
use lib.Seq.{sets-eq}
use Rattle.wing_listing.specs.Parts.{ended}
use Rattle.wing_listing.specs.Listing.{header}
use Rattle.wing_listing.proofs.print.lay_header.Goals as goal

pub returns : goal.returns
returns c =
    let out = c.args.out.now in
    ap (λ (x : List ℕ). x ++ drop 14 out) c.copy_from_slice.ensures.after ∙ sym (sets-eq (ended header) out 0 c.requires)
