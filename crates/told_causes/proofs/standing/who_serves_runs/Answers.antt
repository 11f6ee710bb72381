use Rattle.told_causes.proofs.RunLemmas.{who_served, who_serves}
use Rattle.told_causes.proofs.standing.who_serves_runs.Goals as goal

pub returns-clause-serves : goal.returns-clause-serves
returns-clause-serves c = λ tells. who_serves

pub returns-clause-served : goal.returns-clause-served
returns-clause-served c = λ tells. who_served
