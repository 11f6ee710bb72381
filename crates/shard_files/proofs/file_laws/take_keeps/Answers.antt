use Rattle.shard_files.proofs.VolumeSteps.{take_keeps as it}
use Rattle.shard_files.proofs.file_laws.take_keeps.Goals as goal

pub returns : goal.returns
returns c = it
