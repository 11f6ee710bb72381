use Rattle.line_tracks.proofs.acts.OpenLemmas.{begins_still}
use Rattle.line_tracks.proofs.nodes.first_begins_stay.Goals as goal

pub returns : goal.returns
returns g c = begins_still g.D.Disk.state c.args.members.now
