use Rattle.shard_files.proofs.PartLemmas.{counted_by_checkpoints as it}
use Rattle.shard_files.proofs.file_laws.counted_by_checkpoints.Goals as goal

pub returns : goal.returns
returns c = it
