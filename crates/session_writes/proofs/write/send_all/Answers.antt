use Rattle.session_net.specs.Writes.{Putting}
use Rattle.session_writes.proofs.SendLemmas.{may_ack, settled, unsettled}
use Rattle.session_writes.proofs.write.send_all.Goals as goal

pub settle-requires-clause-acks : goal.settle-requires-clause-acks
settle-requires-clause-acks g c =
    let sending = c.args.sending.now in
    let w : Putting = record { id = sending.id; rules = c.args.rules.now; version = sending.version; shard = sending.shard; point = c.args.point.now } in
    let put = c.put_all.ensures in
    may_ack g.D.Disk.state c.args.fates.now w c.args.members.now c.args.replicas.now c.send-position.new.replicas c.put_all.new.replicas put.0 put.1 put.2 c.send-position.ensures.ran put.3 c.requires.counted c.requires.differ c.send-position.result
    c.send-position.ensures.position c.put_all.new.tally.answered.items put.5

pub returns-clause-ok : goal.returns-clause-ok
returns-clause-ok g c =
    let sending = c.args.sending.now in
    let w : Putting = record { id = sending.id; rules = c.args.rules.now; version = sending.version; shard = sending.shard; point = c.args.point.now } in
    let put = c.put_all.ensures in
    settled g.D.Disk.state c.args.fates.now w c.args.members.now c.args.replicas.now c.send-position.new.replicas c.put_all.new.replicas put.0 put.1 put.2 c.send-position.ensures.ran put.3 c.settle.new.replicas c.args.needed c.args.bag.now
    c.keep_late.new.bag c.in_ok-keep_late.ensures.ok c.put_all.new.tally.answered.items c.put_all.new.tally.reasons.items put.5 put.6 c.send-position.result c.send-position.ensures.position c.settle.result c.settle.ensures.ok

pub returns-clause-err : goal.returns-clause-err
returns-clause-err g c =
    let sending = c.args.sending.now in
    let w : Putting = record { id = sending.id; rules = c.args.rules.now; version = sending.version; shard = sending.shard; point = c.args.point.now } in
    let put = c.put_all.ensures in
    unsettled g.D.Disk.state c.args.fates.now w c.args.members.now c.args.replicas.now c.send-position.new.replicas c.put_all.new.replicas put.0 put.1 put.2 c.send-position.ensures.ran put.3 c.settle.new.replicas c.args.needed c.args.bag.now
    c.keep_late.new.bag c.in_ok-keep_late.ensures.ok c.put_all.new.tally.answered.items c.put_all.new.tally.reasons.items put.5 put.6 c.send-position.result c.send-position.ensures.position c.settle.result c.settle.ensures.err
