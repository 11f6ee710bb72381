use Rattle.shard_files.proofs.SnapshotSteps.{clear_keeps as it}
use Rattle.shard_files.proofs.file_laws.clear_keeps.Goals as goal

pub returns : goal.returns
returns c = it
