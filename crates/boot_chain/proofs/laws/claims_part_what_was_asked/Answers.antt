use Rattle.boot_chain.proofs.PartLemmas.{apart, left_in_order}
use Rattle.boot_chain.proofs.laws.claims_part_what_was_asked.Goals as goal

pub returns-clause-apart : goal.returns-clause-apart
returns-clause-apart c = apart

pub returns-clause-order : goal.returns-clause-order
returns-clause-order c = left_in_order
