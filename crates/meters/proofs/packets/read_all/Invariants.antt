-- Each packet leaves less of the input.
use Rattle.std.proofs.Common.{length}
use Rattle.meters.proofs.packets.read_all.Given as goal

abbrev pub decreases-loop-rest : goal.decreases-loop-rest
decreases-loop-rest l = length l.rest
