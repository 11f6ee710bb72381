use Rattle.model_laws.proofs.UncausedLives.{fetch_short-refused}
use Rattle.model_laws.proofs.uncaused.short_majority.Goals as goal

pub returns : goal.returns
returns c = fetch_short-refused
