use Rattle.fault_laws.proofs.VersionLives.{opened-caused, booted-refused}
use Rattle.fault_laws.proofs.versions.waits_when_reopened.Goals as goal

pub returns-clause-opened : goal.returns-clause-opened
returns-clause-opened c = opened-caused

pub returns-clause-booted : goal.returns-clause-booted
returns-clause-booted c = booted-refused
