use Rattle.fault_laws.proofs.FaultLives.{shard_missing-caused}
use Rattle.fault_laws.proofs.faults.shard_not_there.Goals as goal

pub returns : goal.returns
returns c = shard_missing-caused
