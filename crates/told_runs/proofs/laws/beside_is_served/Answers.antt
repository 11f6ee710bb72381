use Rattle.told_runs.proofs.BesideServedLemmas.{beside_kept, beside_served}
use Rattle.told_runs.proofs.laws.beside_is_served.Goals as goal

pub returns-clause-served : goal.returns-clause-served
returns-clause-served c = beside_served

pub returns-clause-kept : goal.returns-clause-kept
returns-clause-kept c = beside_kept
