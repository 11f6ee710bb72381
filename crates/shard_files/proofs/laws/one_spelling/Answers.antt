use Rattle.shard_files.proofs.HeldLemmas.{one_spelling as it}
use Rattle.shard_files.proofs.laws.one_spelling.Goals as goal

pub returns : goal.returns
returns c = it
