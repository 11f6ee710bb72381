use Rattle.std.proofs.Common.{true}
use Rattle.store_log.proofs.LogStepLemmas.{begun_counted}
use Rattle.store_log.proofs.LogStepLemmas.{begun_kept, known_fresh, fresh_elapses}
use Rattle.store_log.proofs.log_step.begin_log.Goals as goal

pub returns-clause-any_moment : goal.returns-clause-any_moment
returns-clause-any_moment g c tells = fresh_elapses c.args.number (g.D.Disk.state c.args.disk.now) (g.D.Disk.state c.begin.new.disk) (g.met.D.Disk.lawful c.args.disk.now) c.requires tells (c.begin.ensures.any_moment tells)

pub returns-clause-kept : goal.returns-clause-kept
returns-clause-kept g c memory known tenure fence at_rest order exact =
    begun_kept c.begin.result (record { number = c.args.number; at = 0; clean = true }) memory known tenure fence (g.D.Disk.state c.begin.new.disk) c.begin.ensures.ok c.begin.ensures.stands
    (known_fresh c.args.number memory.points known tenure fence (g.D.Disk.state c.args.disk.now) (g.D.Disk.state c.begin.new.disk) (g.met.D.Disk.lawful c.args.disk.now) c.requires c.begin.ensures.tells c.begin.ensures.any_moment exact) at_rest order

pub returns-clause-counted : goal.returns-clause-counted
returns-clause-counted g c missing snapshot counts =
    begun_counted c.begin.result c.args.number missing snapshot (g.D.Disk.state c.args.disk.now) (g.D.Disk.state c.begin.new.disk) c.begin.ensures.tells c.requires c.begin.ensures.ok c.begin.ensures.limit c.begin.ensures.made counts
