use Rattle.fault_laws.proofs.FaultKindLives.{at_once-caused, earlier-caused, damaged-caused, untaken-refused}
use Rattle.fault_laws.proofs.fault_kinds.down_by_untaken_disk.Goals as goal

pub returns-clause-failing : goal.returns-clause-failing
returns-clause-failing c = at_once-caused

pub returns-clause-earlier : goal.returns-clause-earlier
returns-clause-earlier c = earlier-caused

pub returns-clause-damage : goal.returns-clause-damage
returns-clause-damage c = damaged-caused

pub returns-clause-taking : goal.returns-clause-taking
returns-clause-taking c = untaken-refused
