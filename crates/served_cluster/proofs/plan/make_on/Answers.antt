use Rattle.std.proofs.Common.{subst}
use Rattle.served_cluster.specs.Plans.{IsPlannedOn}
use Rattle.served_cluster.proofs.PlanLemmas.{next_of, rules_may, step_makes}
use Rattle.served_cluster.proofs.plan.make_on.Goals as goal

pub returns-in-Rules-clause-may : goal.returns-in-Rules-clause-may
returns-in-Rules-clause-may g c =
    let m = c.args.members.now in
    let a = c.requires.planned.0 in
    let planned = subst (IsPlannedOn m a) c.in-Rules.is c.requires.planned.1 in
    rules_may g.D.Disk.state (g.X.Disks.depot c.args.disks.now).held m c.set_rules.new.self a c.in-Rules.rules planned c.set_rules.ensures.sets c.set_rules.ensures.ready c.requires.may

pub returns-in-Next-clause-makes : goal.returns-in-Next-clause-makes
returns-in-Next-clause-makes g c = λ a planned.
    let m = c.args.members.now in
    let change = c.make_change-answer in
    let h = next_of m a c.in-Next.change (subst (IsPlannedOn m a) c.in-Next.is planned) in
    step_makes g.D.Disk.state (g.X.Disks.depot c.args.disks.now) (g.X.Disks.depot change.new.disks) m change.new.members a change.result h.0 (change.ensures.changed a h.0 h.1)
