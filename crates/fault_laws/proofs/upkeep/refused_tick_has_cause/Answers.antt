use Rattle.fault_laws.proofs.UpkeepLives.{failed-caused, other_line-refused, cut-refused}
use Rattle.fault_laws.proofs.upkeep.refused_tick_has_cause.Goals as goal

pub returns-clause-failed : goal.returns-clause-failed
returns-clause-failed c = failed-caused

pub returns-clause-other_line : goal.returns-clause-other_line
returns-clause-other_line c = other_line-refused

pub returns-clause-no_cut : goal.returns-clause-no_cut
returns-clause-no_cut c = cut-refused
