use Rattle.line_tracks.proofs.tracks.LineLemmas.{lines_are_tracked as all}
use Rattle.line_tracks.proofs.lines.lines_are_tracked.Goals as goal

pub returns : goal.returns
returns g c = all g.D.Disk.state g.met.D.Disk.lawful c.args.members.now
