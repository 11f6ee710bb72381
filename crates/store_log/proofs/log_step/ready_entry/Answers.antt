use Rattle.snapshot_steps.proofs.LogCounts.{ready_counts}
use Rattle.store_log.proofs.LogStepLemmas.{kept_by_ready, begin_elapses}
use Rattle.store_log.proofs.log_step.ready_entry.Goals as goal

pub returns-clause-any_moment : goal.returns-clause-any_moment
returns-clause-any_moment g c tells = begin_elapses c.args.log.now (g.D.Disk.state c.args.disk.now) (g.D.Disk.state c.ready.new.disk) (g.met.D.Disk.lawful c.args.disk.now) c.requires.stands tells (c.ready.ensures.any_moment tells)

pub returns-clause-kept : goal.returns-clause-kept
returns-clause-kept g c memory known tenure fence kept =
    kept_by_ready c.args.log.now c.ready.new.self memory known tenure fence (g.D.Disk.state c.args.disk.now) (g.D.Disk.state c.ready.new.disk) (g.met.D.Disk.lawful c.args.disk.now) c.requires.stands c.ready.ensures.tells c.ready.ensures.stands c.ready.ensures.any_moment kept

pub returns-clause-counts : goal.returns-clause-counts
returns-clause-counts g c = λ tells fine.
    ready_counts c.args.log.now c.ready.new.self (g.D.Disk.state c.args.disk.now) (g.D.Disk.state c.ready.new.disk) tells c.ready.ensures.tells c.ready.ensures.limit c.requires.stands c.ready.ensures.stands c.ready.result fine c.ready.ensures.fresh c.ready.ensures.memory (c.ready.ensures.files tells)
