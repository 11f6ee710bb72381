use Rattle.cluster_core.specs.Legal.{JoinedThere}
use Rattle.legal_events.proofs.LoopLemmas.{AllBelow}
use Rattle.legal_events.proofs.legal.joined_at.Given as goal

abbrev pub invariant-loop-joining : goal.invariant-loop-joining
invariant-loop-joining l = AllBelow (JoinedThere l.past l.place.rf l.assignments l.shard l.node) l.assignments l.joining-index
