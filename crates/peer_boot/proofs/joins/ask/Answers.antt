use Rattle.std.proofs.Common.{Err, refl, subst}
use Rattle.peer_boot.specs.Tries.{IsStreamTried}
use Rattle.peer_boot.specs.declared.stream_err.StreamErr.{StreamErr}
use Rattle.peer_boot.proofs.JoinLemmas.{counted_broken, counted_whole}
use Rattle.peer_boot.proofs.joins.ask.Goals as goal

pub returns-in-Ok : goal.returns-in-Ok
returns-in-Ok g c =
    counted_whole g.D.Disk.state c.args.from.shard c.args.from.node c.args.to.node c.args.tenure c.into_peer.result c.args.tally.now c.add.new.self c.args.replicas.now c.stream_from.new.replicas c.add.ensures.room c.in-Ok.cover c.into_peer.ensures
    c.in-Ok.ensures c.add.ensures.answered c.add.ensures.reasons

pub returns-in-Err-From : goal.returns-in-Err-From
returns-in-Err-From g c =
    let state = g.D.Disk.state in
    let s = c.args.from.shard in
    let q = c.args.from.node in
    let y = c.args.to.node in
    let told = subst (λ (e : StreamErr). IsStreamTried state s q y c.args.tenure c.args.replicas.now c.stream_from.new.replicas (Err e)) c.in-Err-From.field-0-is c.in-Err-From.ensures in
    counted_broken state s q y c.args.tenure q c.args.tally.now c.add-in-Err-From.new.self c.args.replicas.now c.stream_from.new.replicas c.add-in-Err-From.ensures.room c.in-Err-From.why refl told c.add-in-Err-From.ensures.answered
    c.add-in-Err-From.ensures.reasons
