use Rattle.std.proofs.Common.{rules}
use Rattle.series_slots.proofs.SortLemmas.{sorted_by_ids}
use Rattle.series_slots.proofs.indexed.by_id.Goals as goal

pub returns-clause-order : goal.returns-clause-order
returns-clause-order c = sorted_by_ids c.sort_unstable_by.new.self.items c.sort_unstable_by.ensures.sorted (λ a r q k. search rules)
