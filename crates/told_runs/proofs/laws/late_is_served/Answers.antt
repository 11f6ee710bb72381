use Rattle.told_runs.proofs.LateLemmas.{delivery_known, late_served}
use Rattle.told_runs.proofs.laws.late_is_served.Goals as goal

pub returns-clause-served : goal.returns-clause-served
returns-clause-served c = late_served

pub returns-clause-known : goal.returns-clause-known
returns-clause-known c = delivery_known
