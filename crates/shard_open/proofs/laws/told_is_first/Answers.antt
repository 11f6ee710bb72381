use Rattle.shard_open.proofs.ToldLemmas.{told_is_first as it}
use Rattle.shard_open.proofs.laws.told_is_first.Goals as goal

pub returns : goal.returns
returns c = it
