use Rattle.std.proofs.Common.{◌≡◌, take}
use Rattle.cluster_core.specs.Replicas.{replica}
use Rattle.cluster_core.proofs.replica_state.replica_of.Given as goal

abbrev pub invariant-loop-event : goal.invariant-loop-event
invariant-loop-event l = l.state ≡ replica l.node l.shard (take l.event-index l.events)
