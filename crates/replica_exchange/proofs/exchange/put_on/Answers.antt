use Rattle.std.proofs.Common.{refl, inr}
use Rattle.replica_machine.specs.cluster_core.declared.event.StepCall.TheVariants as call
use Rattle.replica_machine.specs.cluster_core.declared.event.StepReply.TheVariants as reply
use Rattle.replica_machine.specs.Steps.{reply_by}
use Rattle.replica_exchange.specs.MachineCalls.{AddsBoth}
use Rattle.replica_exchange.proofs.ExchangeLemmas.{Went, opened_after, is_answer, went}
use Rattle.replica_exchange.proofs.exchange.put_on.Given.{Over}
use Rattle.replica_exchange.proofs.exchange.put_on.Goals as goal

pub answer-requires-clause-answers : goal.answer-requires-clause-answers
answer-requires-clause-answers g c =
    is_answer g.D.Disk.state c.args.slot c.args.trail.now c.ask.new.trail c.args.member.now c.put-said.new.self (call.Put c.args.id.client c.args.id.number c.args.rules.now c.args.version c.args.point.now) c.put-call.result c.put-call.result (reply_by (λ _. reply.Done) c.put-said.result) c.done_view-reply.result c.ask.ensures c.put-call.ensures c.put-call.ensures c.done_view-reply.ensures
    c.requires.opened (c.requires.clock, c.requires.sent) c.requires.is (c.put-said.ensures.step c.args.id.client c.args.id.number) (λ e. cc)

both : (g : Over) (c : goal.After-drop-call g) → Went g.D.Disk.state c.args.slot (AddsBoth c.args.slot) (call.Put c.args.id.client c.args.id.number c.args.rules.now c.args.version c.args.point.now) (reply_by (λ _. reply.Done) c.put-said.result) c.args.trail.now c.answer.new.trail (record c.args.member.now { machine = c.put-said.new.self })
both g c = went g.D.Disk.state c.args.slot c.args.trail.now c.ask.new.trail c.answer.new.trail c.args.member.now (record c.args.member.now { machine = c.put-said.new.self }) (call.Put c.args.id.client c.args.id.number c.args.rules.now c.args.version c.args.point.now) c.put-call.result c.put-call.result (reply_by (λ _. reply.Done) c.put-said.result) c.done_view-reply.result c.ask.ensures c.answer.ensures c.put-call.ensures c.put-call.ensures c.done_view-reply.ensures c.requires.is (c.put-said.ensures.step c.args.id.client c.args.id.number) refl

pub returns-clause-is : goal.returns-clause-is
returns-clause-is g c = (both g c).is

pub returns-clause-others : goal.returns-clause-others
returns-clause-others g c = (both g c).others

pub returns-clause-opened : goal.returns-clause-opened
returns-clause-opened g c = opened_after c.requires.opened (both g c).longer

pub returns-clause-answered : goal.returns-clause-answered
returns-clause-answered g c = inr (record {
  said = c.put-said.result;
  step = (c.put-said.ensures.step c.args.id.client c.args.id.number);
  promised = record { ok = c.put-said.ensures.ok; window = c.put-said.ensures.window; err = c.put-said.ensures.err; plain = c.put-said.ensures.plain; unchanged = c.put-said.ensures.unchanged; fault = c.put-said.ensures.fault; refused = c.put-said.ensures.refused c.args.id.client c.args.id.number; disk = c.put-said.ensures.disk };
  first = refl;
  adds = (both g c).adds;
  told = c.done_of.ensures;
})
