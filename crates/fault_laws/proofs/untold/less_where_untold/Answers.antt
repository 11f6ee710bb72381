use Rattle.fault_laws.proofs.UntoldLemmas.{caused_less}
use Rattle.fault_laws.proofs.untold.less_where_untold.Goals as goal

pub returns : goal.returns
returns c = caused_less
