use Rattle.model_laws.proofs.UncausedLives.{fetch_past-refused}
use Rattle.model_laws.proofs.uncaused.fetch_in_the_past.Goals as goal

pub returns : goal.returns
returns c = fetch_past-refused
