use Rattle.std.proofs.Common.{◌↔◌, IsTrue, rules}
use Rattle.std.proofs.lemmas.Result.{IfOk-weaker}
use Rattle.cluster_core.specs.Joins.{HasJoined}
use Rattle.cluster_core.specs.Legal.{JoinedThere}
use Rattle.legal_events.proofs.legal.has_joined_there.Goals as goal

pub returns : goal.returns
returns c =
    let past = c.args.past.now in
    let shard = c.args.assignments.now in
    let a = c.args.joining.now in
    IfOk-weaker c.has_joined.result (λ b. IsTrue b ↔ HasJoined past c.args.rf shard c.args.shard c.args.node a.tenure) (λ b. IsTrue b ↔ JoinedThere past c.args.rf shard c.args.shard c.args.node a)
    (λ b h. (λ t node joins. h.0 t, λ joined. h.1 (joined c.if-joining-node.false (search rules))))
    c.has_joined.ensures
