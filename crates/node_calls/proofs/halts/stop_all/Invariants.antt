use Rattle.std.proofs.Common.{take}
use Rattle.std.specs.List.{flat_map}
use Rattle.cluster_members.specs.session_net.Runs.{Ran}
use Rattle.node_calls.specs.Halts.{slots_of_node, stop_at}
use Rattle.node_calls.proofs.halts.stop_all.Given as goal

abbrev pub invariant-loop-slot : goal.invariant-loop-slot
invariant-loop-slot g l = Ran g.D.Disk.state l.fn.replicas (flat_map stop_at (slots_of_node l.node (take l.slot-index l.slots))) l.replicas
