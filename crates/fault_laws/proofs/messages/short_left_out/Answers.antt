use Rattle.fault_laws.proofs.BrokenMessages.{not_short_enough-refused}
use Rattle.fault_laws.proofs.messages.short_left_out.Goals as goal

pub returns : goal.returns
returns c = not_short_enough-refused
