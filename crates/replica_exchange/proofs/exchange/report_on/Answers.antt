use Rattle.std.proofs.Common.{refl, inr}
use Rattle.std.specs.Prelude.{Ok}
use Rattle.replica_machine.specs.cluster_core.declared.event.StepCall.TheVariants as call
use Rattle.replica_machine.specs.cluster_core.declared.event.StepReply.TheVariants as reply
use Rattle.replica_exchange.specs.MachineCalls.{AddsStep}
use Rattle.replica_exchange.proofs.ExchangeLemmas.{Went, opened_after, tell_lawful, told}
use Rattle.replica_exchange.proofs.exchange.report_on.Given.{Over}
use Rattle.replica_exchange.proofs.exchange.report_on.Goals as goal

pub tell-requires-clause-lawful : goal.tell-requires-clause-lawful
tell-requires-clause-lawful g c = tell_lawful g.D.Disk.state c.args.slot (reply.Told c.report-report.result) c.args.trail.now c.args.member.now c.requires.opened c.requires.is c.report-report.ensures.step

both : (g : Over) (c : goal.After-tell g) → Went g.D.Disk.state c.args.slot (AddsStep c.args.slot) call.Report (reply.Told c.report-report.result) c.args.trail.now c.tell.new.trail c.args.member.now
both g c = told g.D.Disk.state c.args.slot (reply.Told c.report-report.result) c.args.trail.now c.args.member.now c.tell.new.trail c.tell.ensures c.requires.is c.report-report.ensures.step

pub returns-clause-is : goal.returns-clause-is
returns-clause-is g c = (both g c).is

pub returns-clause-others : goal.returns-clause-others
returns-clause-others g c = (both g c).others

pub returns-clause-opened : goal.returns-clause-opened
returns-clause-opened g c = opened_after c.requires.opened (both g c).longer

pub returns-clause-answered : goal.returns-clause-answered
returns-clause-answered g c =
    let e = c.report-report.ensures in inr (record {
      said = Ok c.report-report.result;
      step = e.step;
      promised = record { ok = (e.standing, e.fence, e.held, e.limit); volumes = e.volumes; segments = e.segments; snapshot = e.snapshot; not_open = e.not_open; never_refused = tt; stays = refl };
      first = refl;
      adds = (both g c).adds;
      told = refl;
    })
