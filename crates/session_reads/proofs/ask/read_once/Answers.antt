use Rattle.std.proofs.Common.{◌∙◌, ap, Ok, Err}
use Rattle.session_net.specs.cluster_core.declared.event.StepReply.TheVariants as reply
use Rattle.session_net.specs.replica_exchange.Promises.{Reads}
use Rattle.session_net.specs.Reads.{read_of}
use Rattle.session_net.proofs.DeliveryLemmas.{delivered}
use Rattle.session_reads.specs.Gathering.{wish_of}
use Rattle.session_reads.proofs.ask.read_once.Goals as goal

pub returns-in-Ok-clause-delivered : goal.returns-in-Ok-clause-delivered
returns-in-Ok-clause-delivered g c =
    let asking = c.args.asking.now in
    delivered g.D.Disk.state c.args.slot (read_of asking.id c.args.state.now.rules c.args.state.now.place.version (wish_of c.args.pick.now asking)) (λ x. reply.Found x) (Reads g.D.Disk.state c.args.state.now.rules c.args.pick.now asking.from asking.to) c.read.result
    c.args.replicas.now c.read.new.self c.requires.there c.requires.room (Ok c.in-Ok.series) c.in-Ok.is c.read.ensures

pub returns-in-Err-Refused-clause-delivered : goal.returns-in-Err-Refused-clause-delivered
returns-in-Err-Refused-clause-delivered g c =
    let asking = c.args.asking.now in
    delivered g.D.Disk.state c.args.slot (read_of asking.id c.args.state.now.rules c.args.state.now.place.version (wish_of c.args.pick.now asking)) (λ x. reply.Found x) (Reads g.D.Disk.state c.args.state.now.rules c.args.pick.now asking.from asking.to) c.read.result
    c.args.replicas.now c.read.new.self c.requires.there c.requires.room (Err c.in-Err-Refused.why) (c.in-Err-Refused.is ∙ ap (λ e. Err e) c.in-Err-Refused.field-0-is) c.read.ensures
