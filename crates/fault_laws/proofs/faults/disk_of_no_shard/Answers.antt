use Rattle.fault_laws.proofs.BrokenFaults.{no_shard_restarted-refused, no_shard_made-refused}
use Rattle.fault_laws.proofs.faults.disk_of_no_shard.Goals as goal

pub returns-clause-restart : goal.returns-clause-restart
returns-clause-restart c = no_shard_restarted-refused

pub returns-clause-init : goal.returns-clause-init
returns-clause-init c = no_shard_made-refused
