use Rattle.shard_files.proofs.SnapshotSteps.{save_keeps as it}
use Rattle.shard_files.proofs.file_laws.save_keeps.Goals as goal

pub returns : goal.returns
returns c = it
