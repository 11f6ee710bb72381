use Rattle.cluster_core.specs.Legal.{JoinedAt}
use Rattle.legal_events.proofs.LoopLemmas.{AllBelow}
use Rattle.legal_events.proofs.legal.have_joined.Given as goal

abbrev pub invariant-loop-shard : goal.invariant-loop-shard
invariant-loop-shard l = AllBelow (λ d. JoinedAt l.past l.place d.0 d.1) l.done l.shard-index
