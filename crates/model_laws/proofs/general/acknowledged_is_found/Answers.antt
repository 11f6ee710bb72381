use Rattle.model_laws.proofs.GeneralLemmas.{finds_acknowledged, finds_earlier_writes}
use Rattle.model_laws.proofs.general.acknowledged_is_found.Goals as goal

pub returns-clause-acknowledged : goal.returns-clause-acknowledged
returns-clause-acknowledged c = finds_acknowledged

pub returns-clause-written : goal.returns-clause-written
returns-clause-written c = finds_earlier_writes
