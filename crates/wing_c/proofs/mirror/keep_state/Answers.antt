-- A feed that is taken keeps its state, whose bytes read as it (`saved-laws`); a refused one writes nothing.
use mathlib.Core.Path.{sym, refl, ap}
use Rattle.std.specs.Prelude.{is_ok}
use Rattle.wing_saved.proofs.Saving.Trips.{saved-laws}
use Rattle.wing_c.proofs.mirror.keep_state.Goals as goal

pub keep-requires : goal.keep-requires
keep-requires c = (c.requires.0 (ap is_ok c.in-Ok.is), c.requires.1)

pub returns-in-Ok : goal.returns-in-Ok
returns-in-Ok c =
    let kept = c.keep.ensures in
    simp c.in-Ok.is (record { state_after = sym kept.laid; state_after_2 = saved-laws.back _ _ kept })

pub returns-in-Err : goal.returns-in-Err
returns-in-Err c = simp c.in-Err.is (record { state_after = refl; state_after_2 = refl })
