use Rattle.line_tracks.proofs.tracks.ReadLemmas.{fetches_are_tracked, matches_are_tracked}
use Rattle.line_tracks.proofs.tracks.WriteLemmas.{writes_are_tracked}
use Rattle.line_tracks.proofs.lines.calls_are_tracked.Goals as goal

pub returns-clause-write : goal.returns-clause-write
returns-clause-write g c = writes_are_tracked g.D.Disk.state g.met.D.Disk.lawful c.args.members.now

pub returns-clause-fetch : goal.returns-clause-fetch
returns-clause-fetch g c = fetches_are_tracked g.D.Disk.state g.met.D.Disk.lawful c.args.members.now

pub returns-clause-find : goal.returns-clause-find
returns-clause-find g c = matches_are_tracked g.D.Disk.state g.met.D.Disk.lawful c.args.members.now
