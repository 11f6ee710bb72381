use Rattle.told_causes.proofs.DownLemmas.{down_cause, down_said}
use Rattle.told_causes.proofs.standing.down_has_cause.Goals as goal

pub returns-clause-cause : goal.returns-clause-cause
returns-clause-cause c = λ tells. down_cause

pub returns-clause-said : goal.returns-clause-said
returns-clause-said c = down_said
