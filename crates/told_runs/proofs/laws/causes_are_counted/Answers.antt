use Rattle.told_runs.proofs.CountedLemmas.{few, of_run}
use Rattle.told_runs.proofs.laws.causes_are_counted.Goals as goal

pub returns-clause-of_run : goal.returns-clause-of_run
returns-clause-of_run c = λ tells. of_run

pub returns-clause-few : goal.returns-clause-few
returns-clause-few c = λ tells. few
