use Rattle.shard_files.proofs.AloneLemmas.{log_is_held as it}
use Rattle.shard_files.proofs.file_laws.log_is_held.Goals as goal

pub returns : goal.returns
returns c = it
