use Rattle.line_tracks.proofs.acts.SweptLemmas.{swept_tells}
use Rattle.line_tracks.proofs.upkeep.sweeps_tell.Goals as goal

pub returns : goal.returns
returns g c = swept_tells g.D.Disk.state c.args.members.now
