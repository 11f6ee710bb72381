use Rattle.told_by.proofs.StepLemmas.{steps_tell, unmoved_tell}
use Rattle.told_by.proofs.lines.steps_tell.Goals as goal

pub returns-clause-made : goal.returns-clause-made
returns-clause-made c = λ tells. steps_tell

pub returns-clause-unmade : goal.returns-clause-unmade
returns-clause-unmade c = unmoved_tell
