use Rattle.fault_laws.proofs.MessageLives.{late_messages-caused}
use Rattle.fault_laws.proofs.messages.late_messages_come.Goals as goal

pub returns : goal.returns
returns c = late_messages-caused
