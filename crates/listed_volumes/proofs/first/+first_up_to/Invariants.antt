use Rattle.std.proofs.Common.{length}
use Rattle.listed_volumes.proofs.first.+first_up_to.Given as goal

abbrev pub decreases-first_up_to : goal.decreases-first_up_to
decreases-first_up_to g l = length l.volumes.now
