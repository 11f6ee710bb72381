use Rattle.std.proofs.Common.{◌∙◌, ap, Ok, Err}
use Rattle.std.specs.Prelude.{⊤}
use Rattle.session_net.specs.cluster_core.declared.event.StepCall.TheVariants as call
use Rattle.session_net.specs.cluster_core.declared.event.StepReply.TheVariants as reply
use Rattle.session_net.specs.replica_exchange.Promises.{Fences}
use Rattle.peer_boot.proofs.CallLemmas.{fence_reasons, is_called, never_full}
use Rattle.peer_boot.proofs.calls.fence_once.Goals as goal

pub unreachable-requires : goal.unreachable-requires
unreachable-requires g c =
    never_full g.D.Disk.state c.args.slot (call.Fence c.args.version) (λ (u : ⊤). reply.Done) (Fences g.D.Disk.state c.args.version) c.fence.result c.args.replicas.now c.fence.new.self c.requires.there c.requires.room c.fence.ensures
    (c.in-Err-Full.is ∙ ap (λ e. Err e) c.in-Err-Full.field-0-is)

pub returns-in-Ok : goal.returns-in-Ok
returns-in-Ok g c =
    is_called g.D.Disk.state c.args.slot (call.Fence c.args.version) (λ (u : ⊤). reply.Done) (Fences g.D.Disk.state c.args.version) c.fence.result c.args.replicas.now c.fence.new.self c.requires.there c.requires.room c.fence.ensures
    (Ok (tt {0})) c.in-Ok.is (fence_reasons g.D.Disk.state c.args.slot c.args.version (Ok (tt {0})))

pub returns-in-Err-Refused : goal.returns-in-Err-Refused
returns-in-Err-Refused g c =
    is_called g.D.Disk.state c.args.slot (call.Fence c.args.version) (λ (u : ⊤). reply.Done) (Fences g.D.Disk.state c.args.version) c.fence.result c.args.replicas.now c.fence.new.self c.requires.there c.requires.room c.fence.ensures
    (Err c.in-Err-Refused.why) (c.in-Err-Refused.is ∙ ap (λ e. Err e) c.in-Err-Refused.field-0-is) (fence_reasons g.D.Disk.state c.args.slot c.args.version (Err c.in-Err-Refused.why))
