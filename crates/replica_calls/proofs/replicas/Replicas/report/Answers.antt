use Rattle.std.proofs.Common.{refl, inl}
use Rattle.replica_exchange.specs.cluster_core.declared.event.StepCall.TheVariants as call
use Rattle.replica_exchange.specs.cluster_core.declared.event.StepReply.TheVariants as reply
use Rattle.replica_exchange.specs.MachineCalls.{AddsStep}
use Rattle.replica_exchange.specs.Promises.{Reports}
use Rattle.replica_calls.proofs.SlotLemmas.{none_at}
use Rattle.replica_calls.proofs.TrackLemmas.{at_slot, looked_at, tracked_with, may_call, missing}
use Rattle.replica_calls.proofs.replicas.Replicas.report.Goals as goal

pub report_on-requires-clause-is : goal.report_on-requires-clause-is
report_on-requires-clause-is g c = at_slot g.D.Disk.state c.self.inside.map c.args.slot c.in-Some.member.now c.self.inside.trail c.self.invariant c.in-Some.ensures.value

pub invariant_of-self : goal.invariant_of-self
invariant_of-self g c =
    tracked_with g.D.Disk.state c.self.inside.map c.self.inside.map c.args.slot c.in-Some.member.now c.in-Some.member.now c.self.inside.trail c.report_on.new.trail c.self.invariant
    (looked_at c.self.inside.map c.args.slot c.in-Some.member.now c.self.invariant.sorted c.in-Some.ensures.value)
    c.report_on.ensures.is c.report_on.ensures.others c.report_on.ensures.opened

pub returns-in-Some : goal.returns-in-Some
returns-in-Some g c =
    may_call g.D.Disk.state 1 (AddsStep c.args.slot) c.args.slot call.Report (λ report. reply.Told report) (Reports g.D.Disk.state) (λ report. report) c.self.inside.map c.self.inside.map c.in-Some.member.now c.in-Some.member.now c.self.inside.trail c.report_on.new.trail c.report_on.result
    (looked_at c.self.inside.map c.args.slot c.in-Some.member.now c.self.invariant.sorted c.in-Some.ensures.value)
    c.args.self.now c.self.view_is c.report_on.ensures.answered

pub returns-in-None : goal.returns-in-None
returns-in-None g c = rw (← c.self.view_is) (inl (missing g.D.Disk.state 1 c.args.slot c.self.inside.map c.self.inside.trail _ _ refl (none_at c.self.inside.map c.args.slot c.self.invariant.sorted c.in-None.ensures.value) refl))
