use Rattle.fault_laws.proofs.ServedLemmas.{plain_done}
use Rattle.fault_laws.proofs.served.plain_acts_are_done.Goals as goal

pub returns : goal.returns
returns c = plain_done
