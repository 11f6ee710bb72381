use Rattle.fault_laws.proofs.UpkeepLives.{now-caused, other_moment-refused, other_state-refused, other_version-refused}
use Rattle.fault_laws.proofs.upkeep.status_is_of_now.Goals as goal

pub returns-clause-now : goal.returns-clause-now
returns-clause-now c = now-caused

pub returns-clause-other_moment : goal.returns-clause-other_moment
returns-clause-other_moment c = other_moment-refused

pub returns-clause-other_version : goal.returns-clause-other_version
returns-clause-other_version c = other_version-refused

pub returns-clause-other_state : goal.returns-clause-other_state
returns-clause-other_state c = other_state-refused
