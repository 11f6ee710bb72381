use Rattle.std.proofs.Common.{refl}
use Rattle.fault_laws.proofs.versions.newest_stands.Goals as goal

pub returns-clause-up : goal.returns-clause-up
returns-clause-up c = refl

pub returns-clause-down : goal.returns-clause-down
returns-clause-down c = refl

pub returns-clause-start : goal.returns-clause-start
returns-clause-start c = refl
