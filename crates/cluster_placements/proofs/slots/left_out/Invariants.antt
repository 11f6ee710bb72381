use Rattle.std.proofs.Common.{◌≡◌, take}
use Rattle.std.specs.Prelude.{Some, filter, not}
use Rattle.node_calls.specs.transcripts.Placements.{has_replica}
use Rattle.cluster_placements.proofs.slots.left_out.Given as goal

abbrev pub invariant-loop-slot : goal.invariant-loop-slot
invariant-loop-slot l = l.left.items ≡ filter (λ s. not (has_replica (Some l.place) s.shard s.node)) (take l.slot-index l.slots)
