use Rattle.commit_log.proofs.LogLemmas.{log_is_one as it}
use Rattle.commit_log.proofs.laws.log_is_one.Goals as goal

pub returns : goal.returns
returns c = it
