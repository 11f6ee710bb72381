use Rattle.shard_files.proofs.FirstDamageLemmas.{damage_is_one as it}
use Rattle.shard_files.proofs.file_laws.damage_is_one.Goals as goal

pub returns : goal.returns
returns c = it
