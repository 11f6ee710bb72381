use Rattle.model_laws.proofs.AcceptedLives.{two_ranges-kept}
use Rattle.model_laws.proofs.accepted.range_ends_before.Goals as goal

pub returns : goal.returns
returns c = two_ranges-kept
