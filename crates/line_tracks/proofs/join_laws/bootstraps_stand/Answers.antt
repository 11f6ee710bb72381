use Rattle.line_tracks.proofs.joins.StandLemmas.{bootstraps_stand}
use Rattle.line_tracks.proofs.join_laws.bootstraps_stand.Goals as goal

pub returns : goal.returns
returns g c = bootstraps_stand g.D.Disk.state c.args.members.now
