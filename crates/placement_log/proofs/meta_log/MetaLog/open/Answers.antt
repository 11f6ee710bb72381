use Rattle.std.proofs.Common.{◌∙◌}
use Rattle.m3_outside.proofs.SyncLemmas.{elapses_stays}
use Rattle.placement_log.proofs.meta_log.MetaLog.open.Goals as goal

pub returns-in_err-last-clause-any_moment : goal.returns-in_err-last-clause-any_moment
returns-in_err-last-clause-any_moment g c tells =
    elapses_stays (g.D.Disk.state c.args.disk.now) (g.D.Disk.state c.sync_all.new.disk) (g.D.Disk.state c.read_log.new.disk) (c.sync_all.ensures.proceeds.told tells) (c.read_log.ensures.leaves.proceeds.told (c.sync_all.ensures.proceeds.tells ∙ tells))

pub returns-clause-any_moment : goal.returns-clause-any_moment
returns-clause-any_moment g c tells =
    elapses_stays (g.D.Disk.state c.args.disk.now) (g.D.Disk.state c.sync_all.new.disk) (g.D.Disk.state c.read_log.new.disk) (c.sync_all.ensures.proceeds.told tells) (c.read_log.ensures.leaves.proceeds.told (c.sync_all.ensures.proceeds.tells ∙ tells))
