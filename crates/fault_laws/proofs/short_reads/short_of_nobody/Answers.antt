use Rattle.fault_laws.proofs.ShortLemmas.{nobody-refused}
use Rattle.fault_laws.proofs.short_reads.short_of_nobody.Goals as goal

pub returns : goal.returns
returns c = nobody-refused
