use Rattle.told_causes.proofs.KnownLemmas.{read_is_known}
use Rattle.told_causes.proofs.calls.read_is_known.Goals as goal

pub returns : goal.returns
returns c = read_is_known
