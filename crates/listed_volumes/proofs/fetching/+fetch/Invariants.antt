use Rattle.std.proofs.Common.{length}
use Rattle.listed_volumes.proofs.fetching.+fetch.Given as goal

abbrev pub decreases-fetch : goal.decreases-fetch
decreases-fetch g l = length l.volumes.now
