use Rattle.fault_laws.proofs.MessageLives.{stopped_nodes-caused}
use Rattle.fault_laws.proofs.messages.stopped_nodes_are_down.Goals as goal

pub returns : goal.returns
returns c = stopped_nodes-caused
