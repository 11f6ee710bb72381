use Rattle.std.specs.Prelude.{⊤}
use Rattle.session_net.specs.cluster_core.declared.event.StepReply.TheVariants as reply
use Rattle.session_net.specs.Writes.{put_of}
use Rattle.session_net.proofs.DeliveryLemmas.{brought_cut, brought_twice}
use Rattle.session_writes.proofs.put.put_by_fate.Goals as goal

pub returns-in-Lose : goal.returns-in-Lose
returns-in-Lose g c =
    brought_cut g.D.Disk.state (λ (u : ⊤). reply.Done) c.args.slot.node c.args.slot.shard (put_of c.args.id c.args.rules.now c.args.version c.args.point.now) c.args.fate c.args.replicas.now c.in-Lose.is

pub returns-in-Twice : goal.returns-in-Twice
returns-in-Twice g c =
    rw c.in-Twice.is (brought_twice g.D.Disk.state (λ (u : ⊤). reply.Done) c.args.slot.node c.args.slot.shard (put_of c.args.id c.args.rules.now c.args.version c.args.point.now) c.put_once-heard.result c.put_once-in-Twice.result
    c.args.replicas.now c.put_once-heard.new.replicas c.put_once-in-Twice.new.replicas c.put_once-heard.ensures c.put_once-in-Twice.ensures)
