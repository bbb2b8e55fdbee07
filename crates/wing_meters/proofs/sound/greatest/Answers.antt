-- The library's fold of the larger of two is `greatest` (`greatest-fold`).
use Prim.Native.Nat.{ℕ, max}
use mathlib.Core.Path.{◌≡◌}
use native.Mathlib.Omega.{arith}
use borrow.Author.Rules.{rules}
use Rattle.std.specs.List.{fold}
use Rattle.wing_meters.proofs.Sums.{greatest-fold}
use Rattle.wing_meters.proofs.sound.greatest.Goals as goal

pub returns : goal.returns
returns c =
    let e : c.fold.result ≡ fold (λ (t l : ℕ). max t l) 0 c.args.levels.now = search rules in
    omega (arith, e, greatest-fold 0 c.args.levels.now)
