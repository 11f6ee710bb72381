use Rattle.fault_laws.proofs.ShortLemmas.{whole-caused, all_answered, hidden_memory}
use Rattle.fault_laws.proofs.short_reads.short_for_nothing.Goals as goal

pub returns-clause-whole : goal.returns-clause-whole
returns-clause-whole c = whole-caused

pub returns-clause-all_answered : goal.returns-clause-all_answered
returns-clause-all_answered c = all_answered

pub returns-clause-memory : goal.returns-clause-memory
returns-clause-memory c = hidden_memory
