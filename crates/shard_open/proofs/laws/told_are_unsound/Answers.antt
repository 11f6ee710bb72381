use Rattle.shard_open.proofs.ToldLemmas.{told_are_unsound as it}
use Rattle.shard_open.proofs.laws.told_are_unsound.Goals as goal

pub returns : goal.returns
returns c = it
