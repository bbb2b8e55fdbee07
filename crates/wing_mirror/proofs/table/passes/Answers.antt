-- The record of a number below the count is there.
use native.Mathlib.Omega.{arith}
use Rattle.wing_mirror.proofs.Tables.Chunks.{row_fits}
use Rattle.wing_mirror.proofs.table.passes.Goals as goal

pub row-requires : goal.row-requires
row-requires c = (omega arith, (omega arith, row_fits 264 _ _ _ c.requires.1 c.requires.0))
