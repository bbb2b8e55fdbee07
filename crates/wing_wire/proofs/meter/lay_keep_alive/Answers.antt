-- `keep_alive` opened is the bytes and fields of the lays one after the other, which the law `then` joins.
use native.Mathlib.Omega.{arith}
use Rattle.wing_wire.specs.Meter.{keep_alive}
use Rattle.wing_wire.proofs.Writing.Lays.{then}
use Rattle.wing_wire.proofs.meter.lay_keep_alive.Goals as goal

pub returns : goal.returns
unfolding keep_alive
returns c =
    record {
      laid = then c.lay-at.ensures (then c.lay-at-2.ensures (then c.lay-at-3.ensures
          (then c.lay_number-at.ensures.laid (then c.lay_number-at-2.ensures.laid (then c.lay-at-4.ensures c.lay.ensures)))));
      upper_bound = omega arith;
    }
