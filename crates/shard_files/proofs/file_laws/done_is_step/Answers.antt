use Rattle.shard_files.proofs.RefusedLemmas.{done_is_step as it}
use Rattle.shard_files.proofs.file_laws.done_is_step.Goals as goal

pub returns : goal.returns
returns c = it
