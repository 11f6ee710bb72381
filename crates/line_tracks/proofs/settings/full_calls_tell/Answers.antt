use Rattle.line_tracks.proofs.acts.NothingLemmas.{full_delivery_tells, full_write_tells}
use Rattle.line_tracks.proofs.settings.full_calls_tell.Goals as goal

pub returns-clause-write : goal.returns-clause-write
returns-clause-write g c = full_write_tells g.D.Disk.state c.args.net.now

pub returns-clause-delivery : goal.returns-clause-delivery
returns-clause-delivery g c = full_delivery_tells c.args.net.now
