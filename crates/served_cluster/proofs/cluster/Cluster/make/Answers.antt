use Rattle.std.proofs.Common.{refl}
use Rattle.served_cluster.proofs.PlanLemmas.{made_serves, planned_changes, planned_here}
use Rattle.served_cluster.proofs.cluster.Cluster.make.Goals as goal

pub returns-clause-served : goal.returns-clause-served
returns-clause-served g c = λ a planned.
    let made = c.make_on in
    let old = c.args.self.now in
    let m = c.in-Some.members in
    let h = planned_here old m a c.args.plan c.in-Some.is planned in
    made_serves g.D.Disk.state (g.X.Disks.depot c.args.disks.now) (g.X.Disks.depot made.new.disks) old _ m made.new.members a made.result.0 c.in-Some.is refl refl (planned_changes m a c.args.plan h) (made.ensures.makes a h)
