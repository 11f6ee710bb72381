use Rattle.shard_files.proofs.RefusedLemmas.{snapshot_needs_its_data as it}
use Rattle.shard_files.proofs.file_laws.snapshot_needs_its_data.Goals as goal

pub returns : goal.returns
returns c = it
