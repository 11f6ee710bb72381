use Rattle.fault_laws.proofs.VersionLives.{printed-caused, unprinted-refused}
use Rattle.fault_laws.proofs.versions.unprinted_version.Goals as goal

pub returns-clause-printed : goal.returns-clause-printed
returns-clause-printed c = printed-caused

pub returns-clause-unprinted : goal.returns-clause-unprinted
returns-clause-unprinted c = unprinted-refused
