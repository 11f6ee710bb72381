use Rattle.fault_laws.proofs.BrokenMessages.{fate_of_nobody-refused}
use Rattle.fault_laws.proofs.messages.fate_without_node.Goals as goal

pub returns : goal.returns
returns c = fate_of_nobody-refused
