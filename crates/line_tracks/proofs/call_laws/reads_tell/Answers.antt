use Rattle.line_tracks.proofs.calls.FoundLemmas.{found_tells}
use Rattle.line_tracks.proofs.calls.ShortLemmas.{ended_tells, first_short_tells, full_tells}
use Rattle.line_tracks.proofs.call_laws.reads_tell.Goals as goal

pub returns-clause-found : goal.returns-clause-found
returns-clause-found g c = found_tells g.D.Disk.state c.args.net.now

pub returns-clause-first_short : goal.returns-clause-first_short
returns-clause-first_short g c = first_short_tells g.D.Disk.state c.args.net.now

pub returns-clause-ended : goal.returns-clause-ended
returns-clause-ended g c = ended_tells g.D.Disk.state c.args.net.now

pub returns-clause-full : goal.returns-clause-full
returns-clause-full g c = full_tells g.D.Disk.state c.args.net.now
