use Rattle.std.proofs.lemmas.Result.{IfOk-weaker}
use Rattle.served_cluster.proofs.JoinLemmas.{state_by}
use Rattle.served_cluster.proofs.cluster.Cluster.state_with.Goals as goal

pub returns : goal.returns
returns g c = IfOk-weaker c.marked_state.result _ _ (λ next same. state_by c.args.self.now c.in-Some.members c.in-Some.is c.args.marking.now next same) c.marked_state.ensures
