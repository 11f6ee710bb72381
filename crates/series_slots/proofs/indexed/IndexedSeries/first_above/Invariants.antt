use Rattle.series_slots.proofs.OrderLemmas.{IsAhead}
use Rattle.series_slots.proofs.indexed.IndexedSeries.first_above.Given as goal

abbrev pub invariant-loop-next : goal.invariant-loop-next
invariant-loop-next l = IsAhead l.self l.series l.next-iterator
