use Rattle.line_tracks.proofs.calls.DeliverLemmas.{delivered_tells}
use Rattle.line_tracks.proofs.call_laws.deliveries_tell.Goals as goal

pub returns : goal.returns
returns g c = delivered_tells g.D.Disk.state c.args.net.now
