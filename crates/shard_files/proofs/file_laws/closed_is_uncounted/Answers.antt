use Rattle.shard_files.proofs.RefusedLemmas.{closed_is_uncounted as it}
use Rattle.shard_files.proofs.file_laws.closed_is_uncounted.Goals as goal

pub returns : goal.returns
returns c = it
