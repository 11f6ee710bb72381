use Rattle.run_laws.proofs.WrittenRuns.{cut-refused}
use Rattle.run_laws.proofs.written.two_replies_cut.Goals as goal

pub returns : goal.returns
returns c = cut-refused
