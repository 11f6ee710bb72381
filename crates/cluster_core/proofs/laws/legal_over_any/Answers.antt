use Rattle.cluster_core.proofs.UntoldLemmas.{legal_untold}
use Rattle.cluster_core.proofs.laws.legal_over_any.Goals as goal

pub returns : goal.returns
returns c = legal_untold
