use Rattle.fault_laws.proofs.BrokenMessages.{delivered_twice-refused}
use Rattle.fault_laws.proofs.messages.late_message_twice.Goals as goal

pub returns : goal.returns
returns c = delivered_twice-refused
