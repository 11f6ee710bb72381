use Rattle.shard_files.proofs.FirstDamageLemmas.{log_damage_is_first as it}
use Rattle.shard_files.proofs.file_laws.log_damage_is_first.Goals as goal

pub returns : goal.returns
returns c = it
