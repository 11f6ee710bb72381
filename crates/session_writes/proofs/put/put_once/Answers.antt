use Rattle.std.proofs.Common.{◌∙◌, ap, Ok, Err}
use Rattle.std.specs.Prelude.{⊤}
use Rattle.session_net.specs.cluster_core.declared.event.StepReply.TheVariants as reply
use Rattle.session_net.specs.replica_exchange.Promises.{Puts}
use Rattle.session_net.specs.Writes.{put_of}
use Rattle.session_net.proofs.DeliveryLemmas.{delivered}
use Rattle.session_writes.proofs.put.put_once.Goals as goal

pub returns-in-Ok : goal.returns-in-Ok
returns-in-Ok g c =
    delivered g.D.Disk.state c.args.slot (put_of c.args.id c.args.rules.now c.args.version c.args.point.now) (λ (u : ⊤). reply.Done) (Puts g.D.Disk.state c.args.rules.now c.args.point.now) c.put.result c.args.replicas.now c.put.new.self
    c.requires.there c.requires.room (Ok (tt {0})) c.in-Ok.is c.put.ensures

pub returns-in-Err-Refused : goal.returns-in-Err-Refused
returns-in-Err-Refused g c =
    delivered g.D.Disk.state c.args.slot (put_of c.args.id c.args.rules.now c.args.version c.args.point.now) (λ (u : ⊤). reply.Done) (Puts g.D.Disk.state c.args.rules.now c.args.point.now) c.put.result c.args.replicas.now c.put.new.self
    c.requires.there c.requires.room (Err c.in-Err-Refused.why) (c.in-Err-Refused.is ∙ ap (λ e. Err e) c.in-Err-Refused.field-0-is) c.put.ensures
