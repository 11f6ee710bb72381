use Rattle.model_laws.proofs.UncausedLives.{acks_of_no_node-refused}
use Rattle.model_laws.proofs.uncaused.acks_of_no_node.Goals as goal

pub returns : goal.returns
returns c = acks_of_no_node-refused
