use Rattle.fault_laws.proofs.BrokenMessages.{stopped_and_acked-refused}
use Rattle.fault_laws.proofs.messages.stopped_node_answered.Goals as goal

pub returns : goal.returns
returns c = stopped_and_acked-refused
