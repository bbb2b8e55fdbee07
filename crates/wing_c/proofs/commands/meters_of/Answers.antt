-- The invariant: the first i entries are the meters of their numbers; a turn adds one (`meters-turn`).
use mathlib.Core.Path.{refl, ◌∙◌}
use native.Mathlib.Omega.{arith}
use lib.ListN.{length-set}
use Rattle.wing_c.proofs.Pairs.{meters-turn}
use Rattle.wing_c.proofs.commands.meters_of.Goals as goal

pub loop-i-init : goal.loop-i-init
loop-i-init c = (refl, λ k h. absurd (omega arith))

pub loop-i-preserved : goal.loop-i-preserved
loop-i-preserved c =
    (length-set c.loop-i.meters c.loop-i.i c.meter_at.result ∙ c.loop-i.invariant.0, meters-turn c.args.pairs.now c.loop-i.meters c.loop-i.i c.meter_at.result (omega arith) c.meter_at.ensures c.loop-i.invariant.1)

pub returns : goal.returns
returns c =
    λ k h. c.loop-i.invariant.1 k (omega arith)
