use Rattle.std.proofs.Common.{refl}
use Rattle.snapshot_steps.proofs.LogCounts.{entry_counts}
use Rattle.store_log.proofs.LogStepLemmas.{kept_by_entry, on_ok_as, append_elapses, append_added}
use Rattle.store_log.proofs.WholeLemmas.{append_whole}
use Rattle.store_log.proofs.log_step.append_entry.Goals as goal

pub returns-clause-any_moment : goal.returns-clause-any_moment
returns-clause-any_moment g c e is tells = append_elapses c.args.log.now (g.D.Disk.state c.args.disk.now) (g.D.Disk.state c.append.new.disk) (g.met.D.Disk.lawful c.args.disk.now) c.requires.ready.stands c.args.bytes.now e is tells (c.append.ensures.any_moment tells)

pub returns-clause-whole : goal.returns-clause-whole
returns-clause-whole g c e is tells = append_whole c.args.log.now (g.D.Disk.state c.args.disk.now) (g.D.Disk.state c.append.new.disk) (g.met.D.Disk.lawful c.args.disk.now) c.requires.ready.stands c.args.bytes.now e is tells (c.append.ensures.any_moment tells)

pub returns-clause-acknowledged : goal.returns-clause-acknowledged
returns-clause-acknowledged g c e is tells =
    on_ok_as c.append.result (append_added c.args.log.now (g.D.Disk.state c.args.disk.now) (g.D.Disk.state c.append.new.disk) (g.met.D.Disk.lawful c.args.disk.now) c.requires.ready.stands c.args.bytes.now e is tells) (c.append.ensures.acknowledged tells)

pub returns-clause-kept : goal.returns-clause-kept
returns-clause-kept g c e is memory known tenure fence kept =
    kept_by_entry c.append.result e c.args.bytes.now is c.args.log.now c.append.new.self memory known tenure fence (g.D.Disk.state c.args.disk.now) (g.D.Disk.state c.append.new.disk) (g.met.D.Disk.lawful c.args.disk.now) c.requires.ready.stands c.append.ensures.tells c.append.ensures.stands c.append.ensures.acknowledged kept

pub returns-clause-counts : goal.returns-clause-counts
returns-clause-counts g c = λ tells.
    entry_counts c.args.log.now c.append.new.self (g.D.Disk.state c.args.disk.now) (g.D.Disk.state c.append.new.disk) tells c.append.ensures.tells c.requires.ready.stands c.append.ensures.stands c.append.result c.requires.ready.clean _ _ c.append.ensures.next refl (c.append.ensures.others tells)
