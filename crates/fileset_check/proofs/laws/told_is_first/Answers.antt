use Rattle.fileset_check.proofs.LawLemmas.{told_is_first as it}
use Rattle.fileset_check.proofs.laws.told_is_first.Goals as goal

pub returns : goal.returns
returns c = it
