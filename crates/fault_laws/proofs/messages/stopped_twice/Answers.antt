use Rattle.fault_laws.proofs.BrokenMessages.{stopped_again-refused}
use Rattle.fault_laws.proofs.messages.stopped_twice.Goals as goal

pub returns : goal.returns
returns c = stopped_again-refused
