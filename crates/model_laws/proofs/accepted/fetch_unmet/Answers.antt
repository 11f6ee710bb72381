use Rattle.model_laws.proofs.CausedLives.{fetch_unmet-caused}
use Rattle.model_laws.proofs.accepted.fetch_unmet.Goals as goal

pub returns : goal.returns
returns c = fetch_unmet-caused
