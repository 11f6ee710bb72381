use Rattle.line_tracks.proofs.tracks.UpkeepLemmas.{flushes_are_tracked, snapshots_are_tracked, status_is_tracked, ticks_are_tracked}
use Rattle.line_tracks.proofs.lines.upkeep_is_tracked.Goals as goal

pub returns-clause-tick : goal.returns-clause-tick
returns-clause-tick g c = ticks_are_tracked g.D.Disk.state g.met.D.Disk.lawful c.args.members.now

pub returns-clause-flush : goal.returns-clause-flush
returns-clause-flush g c = flushes_are_tracked g.D.Disk.state g.met.D.Disk.lawful c.args.members.now

pub returns-clause-snapshot : goal.returns-clause-snapshot
returns-clause-snapshot g c = snapshots_are_tracked g.D.Disk.state g.met.D.Disk.lawful c.args.members.now

pub returns-clause-status : goal.returns-clause-status
returns-clause-status g c = status_is_tracked g.D.Disk.state g.met.D.Disk.lawful c.args.members.now
