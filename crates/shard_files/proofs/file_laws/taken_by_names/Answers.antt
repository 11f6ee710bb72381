use Rattle.shard_files.proofs.NextLemmas.{taken_by_names as it}
use Rattle.shard_files.proofs.file_laws.taken_by_names.Goals as goal

pub returns : goal.returns
returns c = it
