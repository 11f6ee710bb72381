use Rattle.model_laws.proofs.GeneralLemmas.{finds_only_sent, finds_only_written}
use Rattle.model_laws.proofs.general.nothing_unwritten.Goals as goal

pub returns-clause-sent : goal.returns-clause-sent
returns-clause-sent c = finds_only_sent

pub returns-clause-written : goal.returns-clause-written
returns-clause-written c = finds_only_written
