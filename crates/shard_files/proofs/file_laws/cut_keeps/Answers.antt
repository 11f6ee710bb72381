use Rattle.shard_files.proofs.CutSteps.{cut_keeps as it}
use Rattle.shard_files.proofs.file_laws.cut_keeps.Goals as goal

pub returns : goal.returns
returns c = it
