use Rattle.cluster_members.proofs.PlanLemmas.{has_room, move_planned}
use Rattle.cluster_members.proofs.members.Members.plan_moment.Goals as goal

pub returns-in-Ok-clause-planned : goal.returns-in-Ok-clause-planned
returns-in-Ok-clause-planned g c =
    let m = c.args.self.now in
    move_planned m c.requires.ready (has_room m.net.replicas.events c.has_room.result c.has_room.ensures c.if-not-has_room.false) c.args.now c.in-Ok.rules c.requires.time c.if-now-moment.false c.in-Ok.ensures
