use Rattle.fault_laws.proofs.VersionLives.{least-caused, both-refused, later_name-refused}
use Rattle.fault_laws.proofs.versions.not_least_loaded.Goals as goal

pub returns-clause-least : goal.returns-clause-least
returns-clause-least c = least-caused

pub returns-clause-both : goal.returns-clause-both
returns-clause-both c = both-refused

pub returns-clause-later_name : goal.returns-clause-later_name
returns-clause-later_name c = later_name-refused
