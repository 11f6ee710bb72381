use Rattle.std.proofs.Common.{refl, inr}
use Rattle.replica_machine.specs.cluster_core.declared.event.StepCall.TheVariants as call
use Rattle.replica_machine.specs.cluster_core.declared.event.StepReply.TheVariants as reply
use Rattle.replica_machine.specs.Steps.{reply_by}
use Rattle.replica_exchange.specs.MachineCalls.{AddsBoth}
use Rattle.replica_exchange.proofs.ExchangeLemmas.{Went, opened_after, is_answer, went}
use Rattle.replica_exchange.proofs.exchange.fence_on.Given.{Over}
use Rattle.replica_exchange.proofs.exchange.fence_on.Goals as goal

pub answer-requires-clause-answers : goal.answer-requires-clause-answers
answer-requires-clause-answers g c =
    is_answer g.D.Disk.state c.args.slot c.args.trail.now c.ask.new.trail c.args.member.now c.fence-said.new.self (call.Fence c.args.version) c.fence-call.result c.fence-call.result (reply_by (λ _. reply.Done) c.fence-said.result) c.done_view-reply.result c.ask.ensures c.fence-call.ensures c.fence-call.ensures c.done_view-reply.ensures
    c.requires.opened tt c.requires.is c.fence-said.ensures.step (λ e. cc)

both : (g : Over) (c : goal.After-drop-call g) → Went g.D.Disk.state c.args.slot (AddsBoth c.args.slot) (call.Fence c.args.version) (reply_by (λ _. reply.Done) c.fence-said.result) c.args.trail.now c.answer.new.trail (record c.args.member.now { machine = c.fence-said.new.self })
both g c = went g.D.Disk.state c.args.slot c.args.trail.now c.ask.new.trail c.answer.new.trail c.args.member.now (record c.args.member.now { machine = c.fence-said.new.self }) (call.Fence c.args.version) c.fence-call.result c.fence-call.result (reply_by (λ _. reply.Done) c.fence-said.result) c.done_view-reply.result c.ask.ensures c.answer.ensures c.fence-call.ensures c.fence-call.ensures c.done_view-reply.ensures c.requires.is c.fence-said.ensures.step refl

pub returns-clause-is : goal.returns-clause-is
returns-clause-is g c = (both g c).is

pub returns-clause-others : goal.returns-clause-others
returns-clause-others g c = (both g c).others

pub returns-clause-opened : goal.returns-clause-opened
returns-clause-opened g c = opened_after c.requires.opened (both g c).longer

pub returns-clause-answered : goal.returns-clause-answered
returns-clause-answered g c = inr (record {
  said = c.fence-said.result;
  step = c.fence-said.ensures.step;
  promised = record { ok = c.fence-said.ensures.ok; err = c.fence-said.ensures.err; plain = c.fence-said.ensures.plain; unchanged = c.fence-said.ensures.unchanged; fault = c.fence-said.ensures.fault; refused = c.fence-said.ensures.refused; disk = c.fence-said.ensures.disk };
  first = refl;
  adds = (both g c).adds;
  told = c.done_of.ensures;
})
