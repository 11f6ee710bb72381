use Rattle.volume_points.proofs.KnownLemmas.{known_are_there}
use Rattle.volume_points.proofs.laws.known_are_there.Goals as goal

pub returns : goal.returns
returns c = known_are_there
