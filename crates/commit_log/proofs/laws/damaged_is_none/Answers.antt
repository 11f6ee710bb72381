use Rattle.commit_log.proofs.LogLemmas.{damaged_is_none as it}
use Rattle.commit_log.proofs.laws.damaged_is_none.Goals as goal

pub returns : goal.returns
returns c = it
