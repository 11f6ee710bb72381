use Rattle.std.proofs.Common.{◌∙◌, ap}
use Rattle.std.specs.Prelude.{Ok, Err}
use Rattle.cluster_core.specs.declared.event.StepCall.TheVariants as call
use Rattle.node_calls.specs.replica_exchange.Promises.{Saves}
use Rattle.cluster_upkeep.proofs.CallLemmas.{has_said, saves_form}
use Rattle.cluster_upkeep.proofs.sweeps.snapshot_one.Goals as goal

pub returns-in-Ok : goal.returns-in-Ok
returns-in-Ok g c =
    has_said g.D.Disk.state c.args.slot call.Snapshot (Saves g.D.Disk.state) (saves_form g.D.Disk.state) c.snapshot.result c.args.replicas.now c.snapshot.new.self c.requires.there c.requires.room c.snapshot.ensures (Ok c.in-Ok.number) c.in-Ok.is

pub returns-in-Err-Refused : goal.returns-in-Err-Refused
returns-in-Err-Refused g c =
    has_said g.D.Disk.state c.args.slot call.Snapshot (Saves g.D.Disk.state) (saves_form g.D.Disk.state) c.snapshot.result c.args.replicas.now c.snapshot.new.self c.requires.there c.requires.room c.snapshot.ensures (Err c.in-Err-Refused.why)
    (c.in-Err-Refused.is ∙ ap (λ e. Err e) c.in-Err-Refused.field-0-is)
