use Rattle.placement_log.proofs.LastLemmas.{last_is_one as it}
use Rattle.placement_log.proofs.laws.last_is_one.Goals as goal

pub returns : goal.returns
returns c = it
