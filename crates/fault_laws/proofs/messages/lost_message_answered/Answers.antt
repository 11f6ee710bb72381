use Rattle.fault_laws.proofs.BrokenMessages.{lost_and_acked-refused}
use Rattle.fault_laws.proofs.messages.lost_message_answered.Goals as goal

pub returns : goal.returns
returns c = lost_and_acked-refused
