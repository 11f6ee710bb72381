use Rattle.std.proofs.Common.{sym, subst}
use Rattle.session_net.specs.cluster_core.Earlier.{HasPage}
use Rattle.peer_boot.specs.Tries.{IsTakenIn}
use Rattle.peer_boot.proofs.StreamLemmas.{page_given, page_there, room_is}
use Rattle.peer_boot.proofs.streams.hand_over.Goals as goal

pub take_in-requires-clause-given : goal.take_in-requires-clause-given
take_in-requires-clause-given g c =
    subst (λ s. HasPage (c.page_once.new.replicas).events s c.in-Ok.page) c.requires.one_shard (page_there g.D.Disk.state c.args.from.shard c.args.from.node c.args.to.node _ c.in-Ok.page c.args.replicas.now c.page_once.new.replicas c.in-Ok.ensures)

pub returns-in-Ok : goal.returns-in-Ok
returns-in-Ok g c =
    page_given g.D.Disk.state c.args.from.shard c.args.from.node c.args.to.node _ c.in-Ok.page c.args.replicas.now c.page_once.new.replicas c.take_in.new.replicas c.take_in.result
    (room_is (c.args.replicas.now).events 4 c.has_room.result c.has_room.ensures c.if-not-has_room.false) c.in-Ok.ensures
    (subst (λ s. IsTakenIn g.D.Disk.state s c.args.to.node c.in-Ok.page c.page_once.new.replicas c.take_in.new.replicas c.take_in.result) (sym c.requires.one_shard) c.take_in.ensures)
