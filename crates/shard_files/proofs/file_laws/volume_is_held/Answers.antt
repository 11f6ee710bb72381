use Rattle.shard_files.proofs.AloneLemmas.{volume_is_held as it}
use Rattle.shard_files.proofs.file_laws.volume_is_held.Goals as goal

pub returns : goal.returns
returns c = it
