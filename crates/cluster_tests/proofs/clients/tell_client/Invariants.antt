use Rattle.cluster_tests.specs.Ready.{IsReadyCluster}
use Rattle.cluster_tests.proofs.clients.tell_client.Given as goal

abbrev pub invariant-loop-at : goal.invariant-loop-at
invariant-loop-at g l = IsReadyCluster l.members
