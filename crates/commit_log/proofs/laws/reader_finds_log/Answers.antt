use Rattle.commit_log.proofs.LogLemmas.{reader_finds_log as it}
use Rattle.commit_log.proofs.laws.reader_finds_log.Goals as goal

pub returns : goal.returns
returns c = it
