use Rattle.log_chunks.proofs.LawLemmas.{one_reading}
use Rattle.commit_log.proofs.laws.chunks_are_one.Goals as goal

pub returns : goal.returns
returns c = λ cs ds bytes le a b. one_reading cs ds bytes le a b
