use Rattle.std.proofs.Common.{length}
use Rattle.volume_points.proofs.reading.+read.Given as goal

abbrev pub decreases-read : goal.decreases-read
decreases-read g l = length l.volumes.now
