use Rattle.fault_laws.proofs.BrokenMessages.{cut_by_other_fate-refused}
use Rattle.fault_laws.proofs.messages.cut_by_another_call.Goals as goal

pub returns : goal.returns
returns c = cut_by_other_fate-refused
