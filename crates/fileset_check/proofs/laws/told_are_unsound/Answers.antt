use Rattle.fileset_check.proofs.LawLemmas.{told_are_unsound as it}
use Rattle.fileset_check.proofs.laws.told_are_unsound.Goals as goal

pub returns : goal.returns
returns c = it
