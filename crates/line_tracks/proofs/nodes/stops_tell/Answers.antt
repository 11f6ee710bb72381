use Rattle.line_tracks.proofs.acts.HaltLemmas.{stopped_tells}
use Rattle.line_tracks.proofs.nodes.stops_tell.Goals as goal

pub returns : goal.returns
returns g c = stopped_tells g.D.Disk.state c.args.members.now
