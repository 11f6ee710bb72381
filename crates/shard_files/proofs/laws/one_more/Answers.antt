use Rattle.shard_files.proofs.HeldLemmas.{one_more as it}
use Rattle.shard_files.proofs.laws.one_more.Goals as goal

pub returns : goal.returns
returns c = it
