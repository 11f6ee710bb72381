use Rattle.std.proofs.Common.{[], true, refl}
use Rattle.model_laws.proofs.PositionLemmas.{due}
use Rattle.model_laws.proofs.CausedLives.{at_moment-caused}
use Rattle.model_laws.proofs.accepted.moment_never_falls.Goals as goal

pub returns-clause-equal : goal.returns-clause-equal
returns-clause-equal c = at_moment-caused 100 _ _ (due true [] [] _ _ _ tt)

pub returns-clause-lower : goal.returns-clause-lower
returns-clause-lower c = at_moment-caused 100 _ _ (due true [] [] _ _ _ refl)
