use Rattle.std.proofs.Common.{refl, inr}
use Rattle.std.specs.Prelude.{Ok}
use Rattle.replica_machine.specs.cluster_core.declared.event.StepCall.TheVariants as call
use Rattle.replica_machine.specs.cluster_core.declared.event.StepReply.TheVariants as reply
use Rattle.replica_machine.specs.Steps.{reply_by}
use Rattle.replica_exchange.specs.MachineCalls.{AddsBoth}
use Rattle.replica_exchange.proofs.ExchangeLemmas.{Went, opened_after, is_answer, went}
use Rattle.replica_exchange.proofs.exchange.end_on.Given.{Over}
use Rattle.replica_exchange.proofs.exchange.end_on.Goals as goal

pub answer-requires-clause-answers : goal.answer-requires-clause-answers
answer-requires-clause-answers g c =
    is_answer g.D.Disk.state c.args.slot c.args.trail.now c.ask.new.trail c.args.member.now c.end.new.self call.End c.end-call.result c.end-call.result (reply_by (λ _. reply.Done) (Ok (tt {0}))) c.done-reply.result c.ask.ensures c.end-call.ensures c.end-call.ensures c.done-reply.ensures
    c.requires.opened tt c.requires.is c.end.ensures.step (λ e. cc)

both : (g : Over) (c : goal.After-drop-call g) → Went g.D.Disk.state c.args.slot (AddsBoth c.args.slot) call.End (reply_by (λ _. reply.Done) (Ok (tt {0}))) c.args.trail.now c.answer.new.trail (record c.args.member.now { machine = c.end.new.self })
both g c = went g.D.Disk.state c.args.slot c.args.trail.now c.ask.new.trail c.answer.new.trail c.args.member.now (record c.args.member.now { machine = c.end.new.self }) call.End c.end-call.result c.end-call.result (reply_by (λ _. reply.Done) (Ok (tt {0}))) c.done-reply.result c.ask.ensures c.answer.ensures c.end-call.ensures c.end-call.ensures c.done-reply.ensures c.requires.is c.end.ensures.step refl

pub returns-clause-is : goal.returns-clause-is
returns-clause-is g c = (both g c).is

pub returns-clause-others : goal.returns-clause-others
returns-clause-others g c = (both g c).others

pub returns-clause-opened : goal.returns-clause-opened
returns-clause-opened g c = opened_after c.requires.opened (both g c).longer

pub returns-clause-answered : goal.returns-clause-answered
returns-clause-answered g c = inr (record {
  said = (Ok (tt {0}));
  step = c.end.ensures.step;
  promised = record { ok = refl; ended = c.end.ensures.ended };
  first = refl;
  adds = (both g c).adds;
  told = refl;
})
