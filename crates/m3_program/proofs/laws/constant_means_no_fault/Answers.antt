use Rattle.m3_program.proofs.FaultLemmas.{no_causes}
use Rattle.m3_program.proofs.laws.constant_means_no_fault.Goals as goal

pub returns : goal.returns
returns c = no_causes
