use Rattle.fault_laws.proofs.BrokenMessages.{down_unstopped-refused}
use Rattle.fault_laws.proofs.messages.down_without_stop.Goals as goal

pub returns : goal.returns
returns c = down_unstopped-refused
