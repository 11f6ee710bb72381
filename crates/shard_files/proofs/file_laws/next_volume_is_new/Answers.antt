use Rattle.shard_files.proofs.NextLemmas.{next_volume_is_new as it}
use Rattle.shard_files.proofs.file_laws.next_volume_is_new.Goals as goal

pub returns : goal.returns
returns c = it
