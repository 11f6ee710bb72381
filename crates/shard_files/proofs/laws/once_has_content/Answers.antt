use Rattle.shard_files.proofs.OnceLemmas.{once_has_content as it}
use Rattle.shard_files.proofs.laws.once_has_content.Goals as goal

pub returns : goal.returns
returns c = it
