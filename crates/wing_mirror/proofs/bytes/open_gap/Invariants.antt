use Rattle.wing_mirror.proofs.Tables.Moves.{moved}
use lib.ListN.{length}
use mathlib.Core.Path.{◌≡◌}
use Prim.Native.Nat.{◌≤◌}
use Rattle.wing_mirror.proofs.bytes.open_gap.Given as goal

abbrev pub invariant-loop-i : goal.invariant-loop-i
invariant-loop-i l = (l.from ≤ l.i) × (l.i ≤ l.end) × (length l.buf ≡ length l.initial.buf) × (l.buf ≡ moved l.initial.buf l.i l.end l.w)
