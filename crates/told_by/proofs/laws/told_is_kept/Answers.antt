use Rattle.told_by.proofs.KeptLemmas.{told_kept}
use Rattle.told_by.proofs.laws.told_is_kept.Goals as goal

pub returns : goal.returns
returns c = told_kept
