use Rattle.model_laws.proofs.UncausedLives.{reason_of_no_node-refused}
use Rattle.model_laws.proofs.uncaused.reason_of_no_node.Goals as goal

pub returns : goal.returns
returns c = reason_of_no_node-refused
