use Rattle.snapshot_files.proofs.LawLemmas.{told_is_unsound as it}
use Rattle.snapshot_files.proofs.laws.told_is_unsound.Goals as goal

pub returns : goal.returns
returns c = it
