use Rattle.std.proofs.Common.{[], true, refl}
use Rattle.model_laws.proofs.PositionLemmas.{due}
use Rattle.model_laws.proofs.CausedLives.{at_moment-caused}
use Rattle.model_laws.proofs.accepted.namespace_not_there.Goals as goal

pub returns-clause-write : goal.returns-clause-write
returns-clause-write c = at_moment-caused 100 _ _ (due true [] [] _ _ _ refl)

pub returns-clause-fetch : goal.returns-clause-fetch
returns-clause-fetch c = at_moment-caused 100 _ _ (due true [] [] _ _ _ refl)
