use Rattle.shard_files.proofs.HeldLemmas.{entries_are_one as it}
use Rattle.shard_files.proofs.laws.entries_are_one.Goals as goal

pub returns : goal.returns
returns c = it
