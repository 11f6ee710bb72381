use Rattle.snapshot_files.proofs.LawLemmas.{told_is_first as it}
use Rattle.snapshot_files.proofs.laws.told_is_first.Goals as goal

pub returns : goal.returns
returns c = it
