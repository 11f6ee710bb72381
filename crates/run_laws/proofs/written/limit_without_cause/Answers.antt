use Rattle.run_laws.proofs.WrittenRuns.{unlimited-refused}
use Rattle.run_laws.proofs.written.limit_without_cause.Goals as goal

pub returns : goal.returns
returns c = unlimited-refused
