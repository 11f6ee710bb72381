use Rattle.shard_files.proofs.FirstDamageLemmas.{told_digests_differ as it}
use Rattle.shard_files.proofs.file_laws.told_digests_differ.Goals as goal

pub returns : goal.returns
returns c = it
