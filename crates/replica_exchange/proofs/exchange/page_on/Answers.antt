use Rattle.std.proofs.Common.{refl, inr}
use Rattle.std.specs.Option.{option_copied}
use Rattle.replica_machine.specs.cluster_core.declared.event.StepCall.TheVariants as call
use Rattle.replica_machine.specs.cluster_core.declared.event.StepReply.TheVariants as reply
use Rattle.replica_machine.specs.Steps.{reply_by}
use Rattle.replica_exchange.specs.MachineCalls.{AddsBoth}
use Rattle.replica_exchange.proofs.ExchangeLemmas.{Went, opened_after, is_answer, went}
use Rattle.replica_exchange.proofs.exchange.page_on.Given.{Over}
use Rattle.replica_exchange.proofs.exchange.page_on.Goals as goal

pub answer-requires-clause-answers : goal.answer-requires-clause-answers
answer-requires-clause-answers g c =
    is_answer g.D.Disk.state c.args.slot c.args.trail.now c.ask.new.trail c.args.member.now c.page-said.new.self (call.Page (option_copied c.args.after)) c.page-call.result c.page-call.result (reply_by (λ page. reply.Paged page) c.page-said.result) c.paged_view-reply.result c.ask.ensures c.page-call.ensures c.page-call.ensures c.paged_view-reply.ensures
    c.requires.opened tt c.requires.is c.page-said.ensures.step (λ e. cc)

both : (g : Over) (c : goal.After-drop-call g) → Went g.D.Disk.state c.args.slot (AddsBoth c.args.slot) (call.Page (option_copied c.args.after)) (reply_by (λ page. reply.Paged page) c.page-said.result) c.args.trail.now c.answer.new.trail (record c.args.member.now { machine = c.page-said.new.self })
both g c = went g.D.Disk.state c.args.slot c.args.trail.now c.ask.new.trail c.answer.new.trail c.args.member.now (record c.args.member.now { machine = c.page-said.new.self }) (call.Page (option_copied c.args.after)) c.page-call.result c.page-call.result (reply_by (λ page. reply.Paged page) c.page-said.result) c.paged_view-reply.result c.ask.ensures c.answer.ensures c.page-call.ensures c.page-call.ensures c.paged_view-reply.ensures c.requires.is c.page-said.ensures.step refl

pub returns-clause-is : goal.returns-clause-is
returns-clause-is g c = (both g c).is

pub returns-clause-others : goal.returns-clause-others
returns-clause-others g c = (both g c).others

pub returns-clause-opened : goal.returns-clause-opened
returns-clause-opened g c = opened_after c.requires.opened (both g c).longer

pub returns-clause-answered : goal.returns-clause-answered
returns-clause-answered g c = inr (record {
  said = c.page-said.result;
  step = c.page-said.ensures.step;
  promised = record { ok = c.page-said.ensures.ok; stays = c.page-said.ensures.stays; err = c.page-said.ensures.err; plain = c.page-said.ensures.plain; refused = c.page-said.ensures.refused; form = c.page-said.ensures.form; disk = c.page-said.ensures.disk };
  first = refl;
  adds = (both g c).adds;
  told = c.page_of.ensures;
})
