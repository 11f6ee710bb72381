use Rattle.session_net.specs.cluster_core.declared.event.StepReply.TheVariants as reply
use Rattle.session_net.specs.Reads.{read_of}
use Rattle.session_net.proofs.DeliveryLemmas.{brought_cut, brought_twice}
use Rattle.session_reads.specs.Gathering.{wish_of}
use Rattle.session_reads.proofs.ask.read_by_fate.Goals as goal

pub returns-in-Lose-clause-brought : goal.returns-in-Lose-clause-brought
returns-in-Lose-clause-brought g c =
    let asking = c.args.asking.now in
    brought_cut g.D.Disk.state (λ x. reply.Found x) c.args.slot.node c.args.slot.shard (read_of asking.id c.args.state.now.rules c.args.state.now.place.version (wish_of c.args.pick.now asking)) c.args.fate c.args.replicas.now c.in-Lose.is

pub returns-in-Twice-clause-brought : goal.returns-in-Twice-clause-brought
returns-in-Twice-clause-brought g c =
    let asking = c.args.asking.now in
    rw c.in-Twice.is (brought_twice g.D.Disk.state (λ x. reply.Found x) c.args.slot.node c.args.slot.shard (read_of asking.id c.args.state.now.rules c.args.state.now.place.version (wish_of c.args.pick.now asking)) c.read_once-heard.result c.read_once-in-Twice.result
    c.args.replicas.now c.read_once-heard.new.replicas c.read_once-in-Twice.new.replicas c.read_once-heard.ensures.delivered c.read_once-in-Twice.ensures.delivered)
