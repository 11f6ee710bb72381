use Rattle.std.proofs.Common.{refl, inr}
use Rattle.replica_machine.specs.cluster_core.declared.event.StepCall.TheVariants as call
use Rattle.replica_machine.specs.cluster_core.declared.event.StepReply.TheVariants as reply
use Rattle.replica_machine.specs.Steps.{reply_by}
use Rattle.replica_exchange.specs.MachineCalls.{AddsBoth}
use Rattle.replica_exchange.proofs.ExchangeLemmas.{Went, opened_after, is_answer, went}
use Rattle.replica_exchange.proofs.exchange.read_on.Given.{Over}
use Rattle.replica_exchange.proofs.exchange.read_on.Goals as goal

pub answer-requires-clause-answers : goal.answer-requires-clause-answers
answer-requires-clause-answers g c =
    is_answer g.D.Disk.state c.args.slot c.args.trail.now c.ask.new.trail c.args.member.now c.read-said.new.self (call.Read c.args.id.client c.args.id.number c.args.rules.now c.args.version c.args.pick.now c.args.from c.args.to) c.read-call.result c.read-call.result (reply_by (λ series. reply.Found series) c.read-said.result) c.found_view-reply.result c.ask.ensures c.read-call.ensures c.read-call.ensures c.found_view-reply.ensures
    c.requires.opened c.requires.clock c.requires.is (c.read-said.ensures.step c.args.id.client c.args.id.number) (λ e. cc)

both : (g : Over) (c : goal.After-drop-call g) → Went g.D.Disk.state c.args.slot (AddsBoth c.args.slot) (call.Read c.args.id.client c.args.id.number c.args.rules.now c.args.version c.args.pick.now c.args.from c.args.to) (reply_by (λ series. reply.Found series) c.read-said.result) c.args.trail.now c.answer.new.trail (record c.args.member.now { machine = c.read-said.new.self })
both g c = went g.D.Disk.state c.args.slot c.args.trail.now c.ask.new.trail c.answer.new.trail c.args.member.now (record c.args.member.now { machine = c.read-said.new.self }) (call.Read c.args.id.client c.args.id.number c.args.rules.now c.args.version c.args.pick.now c.args.from c.args.to) c.read-call.result c.read-call.result (reply_by (λ series. reply.Found series) c.read-said.result) c.found_view-reply.result c.ask.ensures c.answer.ensures c.read-call.ensures c.read-call.ensures c.found_view-reply.ensures c.requires.is (c.read-said.ensures.step c.args.id.client c.args.id.number) refl

pub returns-clause-is : goal.returns-clause-is
returns-clause-is g c = (both g c).is

pub returns-clause-others : goal.returns-clause-others
returns-clause-others g c = (both g c).others

pub returns-clause-opened : goal.returns-clause-opened
returns-clause-opened g c = opened_after c.requires.opened (both g c).longer

pub returns-clause-answered : goal.returns-clause-answered
returns-clause-answered g c = inr (record {
  said = c.read-said.result;
  step = (c.read-said.ensures.step c.args.id.client c.args.id.number);
  promised = record { ok = c.read-said.ensures.ok; ordered = c.read-said.ensures.ordered; stays = c.read-said.ensures.stays; err = c.read-said.ensures.err; plain = c.read-said.ensures.plain c.args.id.client c.args.id.number; refused = c.read-said.ensures.refused c.args.id.client c.args.id.number; form = c.read-said.ensures.form; disk = c.read-said.ensures.disk };
  first = refl;
  adds = (both g c).adds;
  told = c.found_of.ensures;
})
