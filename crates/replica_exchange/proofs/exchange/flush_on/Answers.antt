use Rattle.std.proofs.Common.{refl, inr}
use Rattle.replica_machine.specs.cluster_core.declared.event.StepCall.TheVariants as call
use Rattle.replica_machine.specs.cluster_core.declared.event.StepReply.TheVariants as reply
use Rattle.replica_machine.specs.Steps.{reply_by}
use Rattle.replica_exchange.specs.MachineCalls.{AddsBoth}
use Rattle.replica_exchange.proofs.ExchangeLemmas.{Went, opened_after, is_answer, went}
use Rattle.replica_exchange.proofs.exchange.flush_on.Given.{Over}
use Rattle.replica_exchange.proofs.exchange.flush_on.Goals as goal

pub answer-requires-clause-answers : goal.answer-requires-clause-answers
answer-requires-clause-answers g c =
    is_answer g.D.Disk.state c.args.slot c.args.trail.now c.ask.new.trail c.args.member.now c.flush-said.new.self (call.Flush c.args.rules.now) c.flush-call.result c.flush-call.result (reply_by (λ n. reply.Count n) c.flush-said.result) c.count_view-reply.result c.ask.ensures c.flush-call.ensures c.flush-call.ensures c.count_view-reply.ensures
    c.requires.opened c.requires.clock c.requires.is c.flush-said.ensures.step (λ e. cc)

both : (g : Over) (c : goal.After-drop-call g) → Went g.D.Disk.state c.args.slot (AddsBoth c.args.slot) (call.Flush c.args.rules.now) (reply_by (λ n. reply.Count n) c.flush-said.result) c.args.trail.now c.answer.new.trail (record c.args.member.now { machine = c.flush-said.new.self })
both g c = went g.D.Disk.state c.args.slot c.args.trail.now c.ask.new.trail c.answer.new.trail c.args.member.now (record c.args.member.now { machine = c.flush-said.new.self }) (call.Flush c.args.rules.now) c.flush-call.result c.flush-call.result (reply_by (λ n. reply.Count n) c.flush-said.result) c.count_view-reply.result c.ask.ensures c.answer.ensures c.flush-call.ensures c.flush-call.ensures c.count_view-reply.ensures c.requires.is c.flush-said.ensures.step refl

pub returns-clause-is : goal.returns-clause-is
returns-clause-is g c = (both g c).is

pub returns-clause-others : goal.returns-clause-others
returns-clause-others g c = (both g c).others

pub returns-clause-opened : goal.returns-clause-opened
returns-clause-opened g c = opened_after c.requires.opened (both g c).longer

pub returns-clause-answered : goal.returns-clause-answered
returns-clause-answered g c = inr (record {
  said = c.flush-said.result;
  step = c.flush-said.ensures.step;
  promised = record { ok = c.flush-said.ensures.ok; memory = c.flush-said.ensures.memory; err = c.flush-said.ensures.err; plain = c.flush-said.ensures.plain; refused = c.flush-said.ensures.refused; form = c.flush-said.ensures.form; disk = c.flush-said.ensures.disk };
  first = refl;
  adds = (both g c).adds;
  told = c.count_of.ensures;
})
