use Rattle.std.proofs.Common.{◌∙◌, refl, sym, ap, subst, arith, Err}
use Rattle.session_net.specs.replica_exchange.MachineCalls.{HasRoom}
use Rattle.peer_boot.proofs.StreamLemmas.{room_is, room_lacks}
use Rattle.node_joins.specs.Opens.{IsBeginTried}
use Rattle.node_joins.proofs.BeginLemmas.{begin_unowned, has_begun, has_refused, never_full, room_for}
use Rattle.node_joins.proofs.UnownedLemmas.{came_nothing}
use Rattle.node_joins.proofs.begins.begin.Goals as goal

pub returns-then-not-has_room-clause-tried : goal.returns-then-not-has_room-clause-tried
returns-then-not-has_room-clause-tried g c = (room_lacks (c.args.replicas.now).events 4 c.has_room.result c.has_room.ensures c.if-not-has_room.true, refl)

pub unreachable-requires : goal.unreachable-requires
unreachable-requires g c =
    let room = room_for (c.args.replicas.now).events (room_is (c.args.replicas.now).events 4 c.has_room.result c.has_room.ensures c.if-not-has_room.false) in
    never_full g.D.Disk.state c.args.slot c.args.tenure c.boot.result c.args.replicas.now c.boot.new.self c.requires.there room c.boot.ensures (c.in-Err-Full.is ∙ ap (λ e. Err e) c.in-Err-Full.field-0-is)

pub returns-in-Ok-clause-tried : goal.returns-in-Ok-clause-tried
returns-in-Ok-clause-tried g c =
    let room = room_for (c.args.replicas.now).events (room_is (c.args.replicas.now).events 4 c.has_room.result c.has_room.ensures c.if-not-has_room.false) in
    has_begun g.D.Disk.state c.args.slot c.args.tenure c.boot.result c.args.replicas.now c.boot.new.self c.requires.there room c.boot.ensures c.in-Ok.field-0 c.in-Ok.is

pub returns-in-Err-Refused-clause-tried : goal.returns-in-Err-Refused-clause-tried
returns-in-Err-Refused-clause-tried g c =
    let room = room_for (c.args.replicas.now).events (room_is (c.args.replicas.now).events 4 c.has_room.result c.has_room.ensures c.if-not-has_room.false) in
    subst (IsBeginTried g.D.Disk.state c.args.slot.shard c.args.slot.node c.args.tenure c.args.replicas.now c.boot.new.self) (sym c.passed_over.ensures)
    (has_refused g.D.Disk.state c.args.slot c.args.tenure c.boot.result c.args.replicas.now c.boot.new.self c.requires.there room c.boot.ensures c.in-Err-Refused.why (c.in-Err-Refused.is ∙ ap (λ e. Err e) c.in-Err-Refused.field-0-is))

pub returns-then-not-has_room-clause-unowned : goal.returns-then-not-has_room-clause-unowned
returns-then-not-has_room-clause-unowned g c = came_nothing g.D.Disk.state c.args.replicas.now

pub returns-in-Ok-clause-unowned : goal.returns-in-Ok-clause-unowned
returns-in-Ok-clause-unowned g c =
    let room = room_for (c.args.replicas.now).events (room_is (c.args.replicas.now).events 4 c.has_room.result c.has_room.ensures c.if-not-has_room.false) in
    begin_unowned g.D.Disk.state c.args.slot c.args.tenure c.boot.result c.args.replicas.now c.boot.new.self c.requires.there room c.boot.ensures c.know.ensures.members

pub returns-in-Err-Refused-clause-unowned : goal.returns-in-Err-Refused-clause-unowned
returns-in-Err-Refused-clause-unowned g c =
    let room = room_for (c.args.replicas.now).events (room_is (c.args.replicas.now).events 4 c.has_room.result c.has_room.ensures c.if-not-has_room.false) in
    begin_unowned g.D.Disk.state c.args.slot c.args.tenure c.boot.result c.args.replicas.now c.boot.new.self c.requires.there room c.boot.ensures c.know.ensures.members
