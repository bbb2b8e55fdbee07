-- The library's sum is `added` (`added-sum`); 256 levels of 16 bits fit 32.
use mathlib.Core.Path.{◌≡◌, sym, ◌∙◌}
use borrow.Author.Rules.{rules}
use Rattle.std.specs.List.{sum_by}
use Rattle.std.proofs.iter.runs.Sources.{sums}
use Rattle.wing_meters.proofs.Sums.{added-sum}
use Rattle.wing_meters.proofs.sound.added.Goals as goal

pub sum-requires-clause-fits : goal.sum-requires-clause-fits
sum-requires-clause-fits c = search (rules, sums)

pub returns : goal.returns
returns c =
    let e : c.sum.result ≡ sum_by (λ x. x) c.args.levels.now = search rules in
    e ∙ sym (added-sum c.args.levels.now)
