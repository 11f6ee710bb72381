use Rattle.line_tracks.proofs.calls.WriteLemmas.{acked_tells, unmet_tells, unsent_tells}
use Rattle.line_tracks.proofs.call_laws.writes_tell.Goals as goal

pub returns-clause-acknowledged : goal.returns-clause-acknowledged
returns-clause-acknowledged g c = acked_tells g.D.Disk.state c.args.net.now

pub returns-clause-unmet : goal.returns-clause-unmet
returns-clause-unmet g c = unmet_tells g.D.Disk.state c.args.net.now

pub returns-clause-unsent : goal.returns-clause-unsent
returns-clause-unsent g c = unsent_tells g.D.Disk.state c.args.net.now
