use Rattle.line_tracks.proofs.tracks.FirstLemmas.{first_stands_so}
use Rattle.line_tracks.proofs.track_laws.cluster_begins.Goals as goal

pub returns : goal.returns
returns g c = first_stands_so g.D.Disk.state c.args.members.now
