use Rattle.cluster_members.specs.Names.{AreNumbered}
use Rattle.node_calls.proofs.nodes.resolved.Given as goal

abbrev pub invariant-loop-client : goal.invariant-loop-client
invariant-loop-client l = AreNumbered l.instances l.yielded l.numbered.items
