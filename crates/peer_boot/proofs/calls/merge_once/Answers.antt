use Rattle.std.proofs.Common.{◌∙◌, ℕ, ap, Ok, Err}
use Rattle.session_net.specs.cluster_core.declared.event.StepCall.TheVariants as call
use Rattle.session_net.specs.cluster_core.declared.event.StepReply.TheVariants as reply
use Rattle.session_net.specs.replica_exchange.Promises.{Merges}
use Rattle.peer_boot.proofs.CallLemmas.{is_called, merge_forms, merge_reasons, never_full}
use Rattle.peer_boot.proofs.calls.merge_once.Goals as goal

pub unreachable-requires : goal.unreachable-requires
unreachable-requires g c =
    never_full g.D.Disk.state c.args.slot (call.Merge c.args.page.now) (λ (n : ℕ). reply.Count n) (Merges g.D.Disk.state c.args.page.now) c.merge.result c.args.replicas.now c.merge.new.self c.requires.there c.requires.room c.merge.ensures
    (c.in-Err-Full.is ∙ ap (λ e. Err e) c.in-Err-Full.field-0-is)

pub returns-in-Ok-clause-called : goal.returns-in-Ok-clause-called
returns-in-Ok-clause-called g c =
    is_called g.D.Disk.state c.args.slot (call.Merge c.args.page.now) (λ (n : ℕ). reply.Count n) (Merges g.D.Disk.state c.args.page.now) c.merge.result c.args.replicas.now c.merge.new.self c.requires.there c.requires.room c.merge.ensures
    (Ok c.in-Ok.risen) c.in-Ok.is (merge_forms g.D.Disk.state c.args.slot c.args.page.now (Ok c.in-Ok.risen))

pub returns-in-Err-Refused-clause-called : goal.returns-in-Err-Refused-clause-called
returns-in-Err-Refused-clause-called g c =
    is_called g.D.Disk.state c.args.slot (call.Merge c.args.page.now) (λ (n : ℕ). reply.Count n) (Merges g.D.Disk.state c.args.page.now) c.merge.result c.args.replicas.now c.merge.new.self c.requires.there c.requires.room c.merge.ensures
    (Err c.in-Err-Refused.why) (c.in-Err-Refused.is ∙ ap (λ e. Err e) c.in-Err-Refused.field-0-is) (merge_forms g.D.Disk.state c.args.slot c.args.page.now (Err c.in-Err-Refused.why))

pub returns-in-Err-Refused-clause-reasons : goal.returns-in-Err-Refused-clause-reasons
returns-in-Err-Refused-clause-reasons g c =
    merge_reasons g.D.Disk.state c.args.slot c.args.page.now c.merge.result c.args.replicas.now c.merge.new.self c.requires.there c.requires.room c.know.ensures.members c.requires.given c.merge.ensures c.in-Err-Refused.why
    (c.in-Err-Refused.is ∙ ap (λ e. Err e) c.in-Err-Refused.field-0-is)
