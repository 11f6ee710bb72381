use Rattle.line_tracks.proofs.acts.HaltLemmas.{restart_failed_tells, restart_wanted_tells, restarted_tells}
use Rattle.line_tracks.proofs.nodes.restarts_tell.Goals as goal

pub returns-clause-restarted : goal.returns-clause-restarted
returns-clause-restarted g c = restarted_tells g.D.Disk.state c.args.members.now

pub returns-clause-failed : goal.returns-clause-failed
returns-clause-failed g c = restart_failed_tells g.D.Disk.state c.args.members.now

pub returns-clause-wanted : goal.returns-clause-wanted
returns-clause-wanted g c = restart_wanted_tells g.D.Disk.state c.args.members.now
