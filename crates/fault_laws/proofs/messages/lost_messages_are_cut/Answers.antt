use Rattle.fault_laws.proofs.MessageLives.{lost_messages-caused}
use Rattle.fault_laws.proofs.messages.lost_messages_are_cut.Goals as goal

pub returns : goal.returns
returns c = lost_messages-caused
