use Rattle.model_laws.proofs.AcceptedLives.{until_expiry-kept}
use Rattle.model_laws.proofs.accepted.kept_to_expiry.Goals as goal

pub returns : goal.returns
returns c = until_expiry-kept
