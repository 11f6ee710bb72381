use Rattle.cluster_core.proofs.OwnLemmas.{stays_lawful, replica_own_seat, may_add}
use Rattle.cluster_core.proofs.laws.others_leave_lawful.Goals as goal

pub returns : goal.returns
returns c = record { stays = stays_lawful; own = replica_own_seat; may_add = may_add }
