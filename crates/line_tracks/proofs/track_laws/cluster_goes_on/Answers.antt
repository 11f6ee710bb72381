use Rattle.line_tracks.proofs.tracks.StepLemmas.{stands_after_line}
use Rattle.line_tracks.proofs.track_laws.cluster_goes_on.Goals as goal

pub returns : goal.returns
returns g c = stands_after_line g.D.Disk.state c.args.members.now
