use Rattle.shard_files.proofs.OnceLemmas.{once_is_one as it}
use Rattle.shard_files.proofs.laws.once_is_one.Goals as goal

pub returns : goal.returns
returns c = it
