use Rattle.commit_log.proofs.LogLemmas.{nothing_behind_gate as it}
use Rattle.commit_log.proofs.laws.nothing_behind_gate.Goals as goal

pub returns : goal.returns
returns c = it
