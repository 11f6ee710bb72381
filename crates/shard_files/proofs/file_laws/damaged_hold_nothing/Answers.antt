use Rattle.shard_files.proofs.FirstDamageLemmas.{damaged_hold_nothing as it}
use Rattle.shard_files.proofs.file_laws.damaged_hold_nothing.Goals as goal

pub returns : goal.returns
returns c = it
