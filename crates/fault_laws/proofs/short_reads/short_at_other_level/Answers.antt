use Rattle.fault_laws.proofs.ShortLemmas.{other_level-refused}
use Rattle.fault_laws.proofs.short_reads.short_at_other_level.Goals as goal

pub returns : goal.returns
returns c = other_level-refused
