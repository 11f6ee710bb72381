use Rattle.std.proofs.Common.{◌∙◌, ap, Ok, Err}
use Rattle.std.specs.Option.{option_copied}
use Rattle.m3_model.specs.declared.point.Page.{Page}
use Rattle.session_net.specs.cluster_core.declared.event.StepCall.TheVariants as call
use Rattle.session_net.specs.cluster_core.declared.event.StepReply.TheVariants as reply
use Rattle.session_net.specs.replica_exchange.Promises.{Pages}
use Rattle.peer_boot.proofs.CallLemmas.{is_called, never_full, page_reasons}
use Rattle.peer_boot.proofs.calls.page_once.Goals as goal

pub unreachable-requires : goal.unreachable-requires
unreachable-requires g c =
    never_full g.D.Disk.state c.args.slot (call.Page (option_copied c.args.after)) (λ (p : Page). reply.Paged p) (Pages g.D.Disk.state (option_copied c.args.after)) c.page.result c.args.replicas.now c.page.new.self c.requires.there c.requires.room
    c.page.ensures (c.in-Err-Full.is ∙ ap (λ e. Err e) c.in-Err-Full.field-0-is)

pub returns-in-Ok : goal.returns-in-Ok
returns-in-Ok g c =
    is_called g.D.Disk.state c.args.slot (call.Page (option_copied c.args.after)) (λ (p : Page). reply.Paged p) (Pages g.D.Disk.state (option_copied c.args.after)) c.page.result c.args.replicas.now c.page.new.self c.requires.there c.requires.room
    c.page.ensures (Ok c.in-Ok.page) c.in-Ok.is (page_reasons g.D.Disk.state c.args.slot (option_copied c.args.after) (Ok c.in-Ok.page))

pub returns-in-Err-Refused : goal.returns-in-Err-Refused
returns-in-Err-Refused g c =
    is_called g.D.Disk.state c.args.slot (call.Page (option_copied c.args.after)) (λ (p : Page). reply.Paged p) (Pages g.D.Disk.state (option_copied c.args.after)) c.page.result c.args.replicas.now c.page.new.self c.requires.there c.requires.room
    c.page.ensures (Err c.in-Err-Refused.why) (c.in-Err-Refused.is ∙ ap (λ e. Err e) c.in-Err-Refused.field-0-is) (page_reasons g.D.Disk.state c.args.slot (option_copied c.args.after) (Err c.in-Err-Refused.why))
