use Rattle.placement_log.proofs.ReadLemmas.{damaged_hold_nothing as it}
use Rattle.placement_log.proofs.laws.damaged_hold_nothing.Goals as goal

pub returns : goal.returns
returns c = it
