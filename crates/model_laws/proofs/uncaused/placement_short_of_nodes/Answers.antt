use Rattle.model_laws.proofs.UncausedLives.{made_of_two-refused}
use Rattle.model_laws.proofs.uncaused.placement_short_of_nodes.Goals as goal

pub returns : goal.returns
returns c = made_of_two-refused
