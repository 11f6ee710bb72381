use Rattle.told_causes.proofs.LevelLemmas.{fetch_said, match_said, silent_said, too_few_said}
use Rattle.told_causes.proofs.calls.levels_are_said.Goals as goal

pub returns-clause-silent : goal.returns-clause-silent
returns-clause-silent c = λ tells. silent_said

pub returns-clause-few : goal.returns-clause-few
returns-clause-few c = λ tells. too_few_said

pub returns-clause-fetched : goal.returns-clause-fetched
returns-clause-fetched c = λ tells. fetch_said

pub returns-clause-matched : goal.returns-clause-matched
returns-clause-matched c = λ tells. match_said
