use Rattle.line_tracks.proofs.tracks.FailureLemmas.{count_goes_on, other_slots_stay}
use Rattle.line_tracks.proofs.track_laws.faults_are_counted.Goals as goal

pub returns-clause-counted : goal.returns-clause-counted
returns-clause-counted g c = count_goes_on g.D.Disk.state c.args.replicas.now

pub returns-clause-others : goal.returns-clause-others
returns-clause-others g c = other_slots_stay g.D.Disk.state c.args.replicas.now
