use Rattle.shard_files.proofs.KeepLemmas.{keeps_then as it}
use Rattle.shard_files.proofs.file_laws.keeps_then.Goals as goal

pub returns : goal.returns
returns c = it
