use Rattle.shard_files.proofs.DamageLemmas.{damaged_is_unsound as it}
use Rattle.shard_files.proofs.laws.damaged_is_unsound.Goals as goal

pub returns : goal.returns
returns c = it
