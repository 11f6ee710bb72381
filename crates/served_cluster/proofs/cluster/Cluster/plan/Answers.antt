use Rattle.std.proofs.lemmas.Result.{IfErr-weaker, IfOk-weaker}
use Rattle.served_cluster.proofs.PlanLemmas.{refused_serves}
use Rattle.served_cluster.proofs.cluster.Cluster.plan.Goals as goal

pub returns-in-Some-clause-planned : goal.returns-in-Some-clause-planned
returns-in-Some-clause-planned g c = IfOk-weaker c.plan_on.result _ _ (λ made planned. (c.in-Some.members, c.in-Some.is, planned)) c.plan_on.ensures.planned

pub returns-in-Some-clause-refused : goal.returns-in-Some-clause-refused
returns-in-Some-clause-refused g c =
    IfErr-weaker c.plan_on.result _ _ (λ b refused. refused_serves g.D.Disk.state c.args.self.now c.in-Some.members c.args.act b c.in-Some.is c.requires.changes refused) c.plan_on.ensures.refused
