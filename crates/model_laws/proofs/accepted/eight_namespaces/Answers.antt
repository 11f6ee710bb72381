use Rattle.std.proofs.Common.{[], true, refl}
use Rattle.model_laws.proofs.PositionLemmas.{due}
use Rattle.model_laws.proofs.CausedLives.{with_eight-caused}
use Rattle.model_laws.proofs.accepted.eight_namespaces.Goals as goal

pub returns-clause-ninth : goal.returns-clause-ninth
returns-clause-ninth c = with_eight-caused _ _ (due true [] [] _ _ _ refl)

pub returns-clause-again : goal.returns-clause-again
returns-clause-again c = with_eight-caused _ _ (due true [] [] _ _ _ refl)
