use Rattle.std.proofs.Common.{◌∙◌}
use Rattle.snapshot_files.proofs.m3_outside_proofs.SyncLemmas.{elapses_stays}
use Rattle.shard_open.proofs.load.load.Goals as goal

pub returns-clause-any_moment : goal.returns-clause-any_moment
returns-clause-any_moment g c tells =
    elapses_stays (g.D.Disk.state c.args.disk.now) (g.D.Disk.state c.sync_all.new.disk) (g.D.Disk.state c.read_disk.new.disk) (c.sync_all.ensures.proceeds.told tells) (c.read_disk.ensures.leaves.proceeds.told (c.sync_all.ensures.proceeds.tells ∙ tells))
