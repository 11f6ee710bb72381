use Rattle.std.proofs.Common.{take}
use Rattle.std.specs.List.{flat_map}
use Rattle.node_calls.specs.session_net.Runs.{Ran}
use Rattle.cluster_placements.specs.Steps.{end_at}
use Rattle.cluster_placements.proofs.events.end_all.Given as goal

abbrev pub invariant-loop-slot : goal.invariant-loop-slot
invariant-loop-slot g l = Ran g.D.Disk.state l.fn.replicas (flat_map end_at (take l.slot-index l.slots)) l.replicas
