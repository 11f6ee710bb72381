use Rattle.told_causes.proofs.BootLemmas.{boot_cause, boot_said}
use Rattle.told_causes.proofs.standing.boot_has_cause.Goals as goal

pub returns-clause-cause : goal.returns-clause-cause
returns-clause-cause c = λ tells. boot_cause

pub returns-clause-said : goal.returns-clause-said
returns-clause-said c = boot_said
