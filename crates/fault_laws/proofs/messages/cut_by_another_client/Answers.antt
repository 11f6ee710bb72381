use Rattle.fault_laws.proofs.BrokenMessages.{cut_by_other_client-refused}
use Rattle.fault_laws.proofs.messages.cut_by_another_client.Goals as goal

pub returns : goal.returns
returns c = cut_by_other_client-refused
