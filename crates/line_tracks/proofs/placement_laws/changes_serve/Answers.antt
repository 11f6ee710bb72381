use Rattle.line_tracks.proofs.placements.ServeLemmas.{changes_serve}
use Rattle.line_tracks.proofs.placement_laws.changes_serve.Goals as goal

pub returns : goal.returns
returns g c = changes_serve g.D.Disk.state c.args.members.now
