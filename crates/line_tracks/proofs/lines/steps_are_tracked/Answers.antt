use Rattle.line_tracks.proofs.tracks.PlacementLemmas.{steps_are_tracked}
use Rattle.line_tracks.proofs.lines.steps_are_tracked.Goals as goal

pub returns : goal.returns
returns g c = steps_are_tracked g.D.Disk.state c.args.members.now
