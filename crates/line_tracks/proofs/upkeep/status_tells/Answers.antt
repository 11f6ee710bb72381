use Rattle.line_tracks.proofs.acts.StatusLemmas.{status_tells as it}
use Rattle.line_tracks.proofs.upkeep.status_tells.Goals as goal

pub returns : goal.returns
returns g c = it g.D.Disk.state c.args.members.now
