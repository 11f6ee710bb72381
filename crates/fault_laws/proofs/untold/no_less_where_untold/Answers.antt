use Rattle.fault_laws.proofs.UntoldLemmas.{order-untold, too_few-untold, disk-untold, down-untold, cut-untold}
use Rattle.fault_laws.proofs.BrokenMessages.{stopped_and_acked-refused, lost_and_acked-refused}
use Rattle.fault_laws.proofs.FaultKindLives.{one-refused}
use Rattle.model_laws.proofs.ShapeLemmas.{late-refused}
use Rattle.fault_laws.proofs.untold.no_less_where_untold.Goals as goal

pub returns-clause-order : goal.returns-clause-order
returns-clause-order c = order-untold

pub returns-clause-too_few : goal.returns-clause-too_few
returns-clause-too_few c = too_few-untold

pub returns-clause-disk : goal.returns-clause-disk
returns-clause-disk c = disk-untold

pub returns-clause-down : goal.returns-clause-down
returns-clause-down c = down-untold

pub returns-clause-cut : goal.returns-clause-cut
returns-clause-cut c = cut-untold

pub returns-clause-stopped : goal.returns-clause-stopped
returns-clause-stopped c = stopped_and_acked-refused

pub returns-clause-lost : goal.returns-clause-lost
returns-clause-lost c = lost_and_acked-refused

pub returns-clause-two : goal.returns-clause-two
returns-clause-two c = one-refused

pub returns-clause-whole : goal.returns-clause-whole
returns-clause-whole c = late-refused
