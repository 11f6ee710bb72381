use Rattle.model_laws.proofs.RefusedLives.{with_unknown_namespace-refused}
use Rattle.model_laws.proofs.refused.unknown_namespace_read.Goals as goal

pub returns : goal.returns
returns c = with_unknown_namespace-refused
