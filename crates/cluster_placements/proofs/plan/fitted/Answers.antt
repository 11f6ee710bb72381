use Rattle.std.proofs.Common.{length, ap, arith}
use Rattle.cluster_placements.proofs.ChangeLemmas.{fewer_flags}
use Rattle.cluster_placements.proofs.plan.fitted.Goals as goal

pub with_nodes-requires : goal.with_nodes-requires
with_nodes-requires g c =
    let fewer = fewer_flags (c.args.members.now).stopped.items (c.args.members.now).net.state.place.instances c.args.next.instances (c.args.members.now).one_each c.requires.names in
    let flags = ap length c.as_slice-5.ensures.value in
    let nodes = c.len.ensures in
    omega (arith, fewer, flags, nodes)
