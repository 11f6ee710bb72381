use Rattle.told_joins.proofs.MissLemmas.{missed_joins_serve, unmarked_joins_serve}
use Rattle.told_joins.proofs.lines.missed_joins_serve.Goals as goal

pub returns-clause-missed : goal.returns-clause-missed
returns-clause-missed c = λ tells. missed_joins_serve

pub returns-clause-unmarked : goal.returns-clause-unmarked
returns-clause-unmarked c = λ tells. unmarked_joins_serve
