use Rattle.line_tracks.proofs.joins.ServeLemmas.{bootstraps_serve}
use Rattle.line_tracks.proofs.join_laws.bootstraps_serve.Goals as goal

pub returns : goal.returns
returns g c = bootstraps_serve g.D.Disk.state c.args.members.now
