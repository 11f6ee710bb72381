use Rattle.move_laws.proofs.FenceLives.{another_shard-refused}
use Rattle.move_laws.proofs.fences.fence_of_another_shard.Goals as goal

pub returns : goal.returns
returns c = another_shard-refused
