use Rattle.shard_files.proofs.RefusedLemmas.{checkpoint_goes_first as it}
use Rattle.shard_files.proofs.file_laws.checkpoint_goes_first.Goals as goal

pub returns : goal.returns
returns c = it
