use Rattle.shard_files.proofs.OnceLemmas.{held_once_is_one as it}
use Rattle.shard_files.proofs.laws.held_once_is_one.Goals as goal

pub returns : goal.returns
returns c = it
