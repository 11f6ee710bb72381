use Rattle.shard_open.proofs.ToldLemmas.{digests_are_apart as it}
use Rattle.shard_open.proofs.laws.digests_are_apart.Goals as goal

pub returns : goal.returns
returns c = it
