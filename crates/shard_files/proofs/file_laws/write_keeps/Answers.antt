use Rattle.shard_files.proofs.VolumeSteps.{write_keeps as it}
use Rattle.shard_files.proofs.file_laws.write_keeps.Goals as goal

pub returns : goal.returns
returns c = it
