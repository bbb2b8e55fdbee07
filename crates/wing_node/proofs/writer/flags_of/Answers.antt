-- Each return is `flags_of` with read-only or without.
use native.Mathlib.Omega.{arith}
use Rattle.wing_node.proofs.writer.flags_of.Goals as goal

pub returns-then-read_only : goal.returns-then-read_only
returns-then-read_only c = simp c.if-read_only.true

pub returns-else-read_only : goal.returns-else-read_only
returns-else-read_only c = simp c.if-read_only.false (omega arith)
