-- The library's position is the length of the first part (`first-place`).
use Prim.Native.Nat.{ℕ}
use mathlib.Core.Path.{◌≡◌, ◌∙◌}
use borrow.Author.Rules.{rules}
use lib.Dec.{eqb}
use lib.ListN.{length}
use Rattle.std.specs.Option.{unwrap_or}
use Rattle.std.proofs.Common.{tests}
use Rattle.std.proofs.lemmas.Iterator.{YieldsList-from_slice}
use Rattle.std.proofs.lemmas.Iterator.Search.{position_from_yields_List}
use Rattle.wing_listing.proofs.Texts.Parts.{first-place}
use Rattle.wing_listing.proofs.line.find.Goals as goal

pub returns : goal.returns
returns c =
    let b = c.args.b in
    let s = c.args.s.now in
    let u : c.unwrap_or.result ≡ unwrap_or c.position.result (length s) = search rules in
    u ∙ first-place b s c.position.result
    (position_from_yields_List (λ (a : ℕ). eqb a b) _ _ c.position.result c.position.ensures.ran (YieldsList-from_slice s cc) (λ x t q k. search (rules, tests)))
