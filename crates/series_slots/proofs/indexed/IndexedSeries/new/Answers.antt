use Rattle.series_slots.proofs.OrderLemmas.{none_listed}
use Rattle.series_slots.proofs.indexed.IndexedSeries.new.Goals as goal

pub invariant_of-result : goal.invariant_of-result
invariant_of-result c = (c.new.ensures.unique, none_listed _ c.new.result.entries c.new.ensures.empty)

pub returns : goal.returns
returns c = c.new.ensures.empty
