use Rattle.commit_log.proofs.LogLemmas.{numbers_there as it}
use Rattle.commit_log.proofs.laws.numbers_are_there.Goals as goal

pub returns : goal.returns
returns c = it
