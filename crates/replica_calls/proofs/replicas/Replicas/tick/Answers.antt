use Rattle.std.proofs.Common.{refl, inl}
use Rattle.replica_exchange.specs.cluster_core.declared.event.StepCall.TheVariants as call
use Rattle.replica_exchange.specs.cluster_core.declared.event.StepReply.TheVariants as reply
use Rattle.replica_exchange.specs.MachineCalls.{AddsBoth}
use Rattle.replica_exchange.specs.Promises.{Ticks}
use Rattle.replica_calls.proofs.SlotLemmas.{wrote, none_at}
use Rattle.replica_calls.proofs.TrackLemmas.{at_slot, tracked_with, may_call, missing}
use Rattle.replica_calls.proofs.replicas.Replicas.tick.Goals as goal

pub tick_on-requires-clause-is : goal.tick_on-requires-clause-is
tick_on-requires-clause-is g c = at_slot g.D.Disk.state c.self.inside.map c.args.slot c.in-Some.member.now c.self.inside.trail c.self.invariant c.in-Some.ensures.value

pub invariant_of-self : goal.invariant_of-self
invariant_of-self g c =
    tracked_with g.D.Disk.state c.self.inside.map (c.get_mut.follows.lender c.tick_on.new.member) c.args.slot c.in-Some.member.now c.tick_on.new.member c.self.inside.trail c.tick_on.new.trail c.self.invariant
    (wrote c.self.inside.map (c.get_mut.follows.lender c.tick_on.new.member) c.args.slot c.in-Some.member.now c.tick_on.new.member c.self.invariant.sorted (c.get_mut.follows.holds c.tick_on.new.member) c.in-Some.ensures.value)
    c.tick_on.ensures.is c.tick_on.ensures.others c.tick_on.ensures.opened

pub returns-in-Some : goal.returns-in-Some
returns-in-Some g c =
    may_call g.D.Disk.state 2 (AddsBoth c.args.slot) c.args.slot (call.Tick c.args.rules.now) (λ n. reply.Count n) (Ticks g.D.Disk.state c.args.rules.now) (λ n. n) c.self.inside.map (c.get_mut.follows.lender c.tick_on.new.member) c.in-Some.member.now c.tick_on.new.member c.self.inside.trail c.tick_on.new.trail c.tick_on.result
    (wrote c.self.inside.map (c.get_mut.follows.lender c.tick_on.new.member) c.args.slot c.in-Some.member.now c.tick_on.new.member c.self.invariant.sorted (c.get_mut.follows.holds c.tick_on.new.member) c.in-Some.ensures.value)
    c.args.self.now c.self.view_is c.tick_on.ensures.answered

pub returns-in-None : goal.returns-in-None
returns-in-None g c = rw c.get_mut.follows.holds-at-none (inl (missing g.D.Disk.state 2 c.args.slot c.self.inside.map c.self.inside.trail _ c.args.self.now c.self.view_is (none_at c.self.inside.map c.args.slot c.self.invariant.sorted c.in-None.ensures.value) refl))
