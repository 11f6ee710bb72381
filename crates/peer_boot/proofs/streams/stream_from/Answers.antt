use Rattle.std.proofs.Common.{subst}
use Rattle.std.specs.Prelude.{Option, None, Some}
use Rattle.m3_model.specs.declared.point.Key.{Key}
use Rattle.peer_boot.specs.Pages.{Stands}
use Rattle.peer_boot.specs.Tries.{IsStreamTried}
use Rattle.peer_boot.proofs.ResultLemmas.{passed_on}
use Rattle.peer_boot.proofs.StreamLemmas.{fenced, never_begun, page_failed, page_more, room_lacks}
use Rattle.peer_boot.proofs.streams.stream_from.Goals as goal

pub returns-then-not-has_room : goal.returns-then-not-has_room
returns-then-not-has_room g c =
    never_begun g.D.Disk.state c.args.from.shard c.args.from.node c.args.to.node c.args.version c.args.replicas.now (room_lacks (c.args.replicas.now).events 4 c.has_room.result c.has_room.ensures c.if-not-has_room.true)

pub returns-in_err-next : goal.returns-in_err-next
returns-in_err-next g c =
    let state = g.D.Disk.state in
    let s = c.args.from.shard in
    let q = c.args.from.node in
    let y = c.args.to.node in
    let old = c.args.replicas.now in
    let mid = c.fence_once.new.replicas in
    let e = c.in_err-next.field-0.0 in
    passed_on c.from_residual.result e (IsStreamTried state s q y c.args.version old c.hand_over.new.replicas) c.from_residual.ensures.1
    (page_failed state s q y c.args.version None old mid c.hand_over.new.replicas e (fenced state s q y c.args.version old mid c.in_default.ensures) c.in_err-next.ensures)

pub loop-next-init : goal.loop-next-init
loop-next-init g c =
    let state = g.D.Disk.state in
    let s = c.args.from.shard in
    let q = c.args.from.node in
    let y = c.args.to.node in
    let old = c.args.replicas.now in
    let mid = c.fence_once.new.replicas in
    page_more state s q y c.args.version None _ old mid c.hand_over.new.replicas (fenced state s q y c.args.version old mid c.in_default.ensures) c.in_ok-next.ensures

pub returns-in_err-next-2 : goal.returns-in_err-next-2
returns-in_err-next-2 g c =
    let state = g.D.Disk.state in
    let s = c.args.from.shard in
    let q = c.args.from.node in
    let y = c.args.to.node in
    let old = c.args.replicas.now in
    let mid = c.loop-next.replicas in
    let e = c.in_err-next-2.field-0.0 in
    let gave = subst (λ (n : Option Key). Stands state s q y c.args.version n old mid) c.in-Some.is c.loop-next.invariant in
    passed_on c.from_residual-in_err-next-2.result e (IsStreamTried state s q y c.args.version old c.hand_over-in-Some.new.replicas) c.from_residual-in_err-next-2.ensures.1
    (page_failed state s q y c.args.version (Some c.in-Some.after) old mid c.hand_over-in-Some.new.replicas e gave c.in_err-next-2.ensures)

pub loop-next-preserved : goal.loop-next-preserved
loop-next-preserved g c =
    let state = g.D.Disk.state in
    let s = c.args.from.shard in
    let q = c.args.from.node in
    let y = c.args.to.node in
    let old = c.args.replicas.now in
    let mid = c.loop-next.replicas in
    let gave = subst (λ (n : Option Key). Stands state s q y c.args.version n old mid) c.in-Some.is c.loop-next.invariant in
    page_more state s q y c.args.version (Some c.in-Some.after) _ old mid c.hand_over-in-Some.new.replicas gave c.in_ok-next-2.ensures
