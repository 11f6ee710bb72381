use Rattle.std.proofs.Common.{◌∙◌, ap}
use Rattle.std.specs.Prelude.{Ok, Err}
use Rattle.cluster_core.specs.declared.event.StepCall.TheVariants as call
use Rattle.node_calls.specs.replica_exchange.Promises.{Ticks}
use Rattle.cluster_upkeep.proofs.CallLemmas.{has_said}
use Rattle.cluster_upkeep.proofs.sweeps.tick_one.Goals as goal

pub returns-in-Ok : goal.returns-in-Ok
returns-in-Ok g c =
    has_said g.D.Disk.state c.args.slot (call.Tick c.args.rules.now) (Ticks g.D.Disk.state c.args.rules.now) (λ said a b promised. promised.form) c.tick.result c.args.replicas.now c.tick.new.self c.requires.there c.requires.room c.tick.ensures (Ok c.in-Ok.count) c.in-Ok.is

pub returns-in-Err-Refused : goal.returns-in-Err-Refused
returns-in-Err-Refused g c =
    has_said g.D.Disk.state c.args.slot (call.Tick c.args.rules.now) (Ticks g.D.Disk.state c.args.rules.now) (λ said a b promised. promised.form) c.tick.result c.args.replicas.now c.tick.new.self c.requires.there c.requires.room c.tick.ensures (Err c.in-Err-Refused.why)
    (c.in-Err-Refused.is ∙ ap (λ e. Err e) c.in-Err-Refused.field-0-is)
