use Rattle.shard_files.proofs.ContentLemmas.{grown_is_joined as it}
use Rattle.shard_files.proofs.laws.grown_is_joined.Goals as goal

pub returns : goal.returns
returns c = it
