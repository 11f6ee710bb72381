use Rattle.shard_files.proofs.RefusedLemmas.{volume_needs_its_files as it}
use Rattle.shard_files.proofs.file_laws.volume_needs_its_files.Goals as goal

pub returns : goal.returns
returns c = it
