use Rattle.std.proofs.Common.{refl, inr}
use Rattle.replica_machine.specs.cluster_core.declared.event.StepCall.TheVariants as call
use Rattle.replica_machine.specs.cluster_core.declared.event.StepReply.TheVariants as reply
use Rattle.replica_machine.specs.Steps.{reply_by}
use Rattle.replica_exchange.specs.MachineCalls.{AddsBoth}
use Rattle.replica_exchange.proofs.ExchangeLemmas.{Went, opened_after, is_answer, went}
use Rattle.replica_exchange.proofs.exchange.boot_on.Given.{Over}
use Rattle.replica_exchange.proofs.exchange.boot_on.Goals as goal

pub answer-requires-clause-answers : goal.answer-requires-clause-answers
answer-requires-clause-answers g c =
    is_answer g.D.Disk.state c.args.slot c.args.trail.now c.ask.new.trail c.args.member.now c.boot-said.new.self (call.Begin c.args.tenure) c.begin-call.result c.begin-call.result (reply_by (λ began. reply.Began began.fence began.points) c.boot-said.result) c.began_view-reply.result c.ask.ensures c.begin-call.ensures c.begin-call.ensures c.began_view-reply.ensures
    c.requires.opened c.requires.tenure c.requires.is c.boot-said.ensures.step (λ e. cc)

both : (g : Over) (c : goal.After-drop-call g) → Went g.D.Disk.state c.args.slot (AddsBoth c.args.slot) (call.Begin c.args.tenure) (reply_by (λ began. reply.Began began.fence began.points) c.boot-said.result) c.args.trail.now c.answer.new.trail (record c.args.member.now { machine = c.boot-said.new.self })
both g c = went g.D.Disk.state c.args.slot c.args.trail.now c.ask.new.trail c.answer.new.trail c.args.member.now (record c.args.member.now { machine = c.boot-said.new.self }) (call.Begin c.args.tenure) c.begin-call.result c.begin-call.result (reply_by (λ began. reply.Began began.fence began.points) c.boot-said.result) c.began_view-reply.result c.ask.ensures c.answer.ensures c.begin-call.ensures c.begin-call.ensures c.began_view-reply.ensures c.requires.is c.boot-said.ensures.step refl

pub returns-clause-is : goal.returns-clause-is
returns-clause-is g c = (both g c).is

pub returns-clause-others : goal.returns-clause-others
returns-clause-others g c = (both g c).others

pub returns-clause-opened : goal.returns-clause-opened
returns-clause-opened g c = opened_after c.requires.opened (both g c).longer

pub returns-clause-answered : goal.returns-clause-answered
returns-clause-answered g c = inr (record {
  said = c.boot-said.result;
  step = c.boot-said.ensures.step;
  promised = record { began = c.boot-said.ensures.began; again = c.boot-said.ensures.again; down = c.boot-said.ensures.down; unowned = c.boot-said.ensures.unowned; unowned_always = c.boot-said.ensures.unowned_always; sound = c.boot-said.ensures.sound; damage = c.boot-said.ensures.damage; form = c.boot-said.ensures.form; reasons = c.boot-said.ensures.reasons; err = c.boot-said.ensures.err; disk = c.boot-said.ensures.disk };
  first = refl;
  adds = (both g c).adds;
  told = c.began_of.ensures;
})
