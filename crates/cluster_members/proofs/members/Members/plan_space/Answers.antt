use Rattle.std.proofs.Common.{rules}
use Rattle.cluster_members.proofs.PlanLemmas.{has_room, space_planned}
use Rattle.cluster_members.proofs.members.Members.plan_space.Goals as goal

pub returns-in-Ok-clause-planned : goal.returns-in-Ok-clause-planned
returns-in-Ok-clause-planned g c =
    let m = c.args.self.now in
    space_planned m c.requires.ready (has_room m.net.replicas.events c.has_room.result c.has_room.ensures c.if-not-has_room.false) c.args.space c.in-Ok.rules c.requires.sized (search rules) c.in-Ok.ensures
